use Rattle.std.proofs.Common.{◌≡◌, ◌∷◌, [], Err, inl, refl, sym, subst, map, string_bytes, rules}
use Rattle.std.specs.Prelude.{MatchOption}
use Rattle.std.proofs.lemmas.Result.{err_from_is_err_and, IfErr-weaker}
use Rattle.hack_files.proofs.RefusalLemmas.{but_none, but_same, but_then}
use Rattle.hack_process.specs.CommandTexts.{text_of}
use Rattle.hack_process.specs.Commands.{command_of}
use Rattle.hack_metadata.specs.InternalAskView.{question_of}
use Rattle.hack_metadata.specs.QuestionCalls.{ReadsOutput, FailsToRead, IsLockfile, locked, answers, tells_newer}
use Rattle.hack_metadata.specs.MetadataReading.{read_metadata}
use Rattle.hack_metadata.specs.Requests.{by_stable}
use Rattle.hack_files.specs.TraceLaws.{makes_none}
use Rattle.hack_metadata.proofs.AskWays.{asked-counts, back-wrote, left-more, over-stops, over-wrote, text-spares, unchanged, whole-left, whole-leaves, whole-more}
use Rattle.hack_metadata.proofs.SpoiltLemmas.{left-grows}
use Rattle.hack_files.proofs.FailedLemmas.{none_failed, none_then}
use Rattle.hack_metadata.proofs.FailedLemmas.{counts-ends, fallen-ends, first-ends, look-path, none-only, path-then, put-then}
use Rattle.hack_metadata.proofs.ask.Question.ask_stable.Goals as goal

pub returns-in_err-first-clause-left : goal.returns-in_err-first-clause-left
returns-in_err-first-clause-left g c =
    let p = err_from_is_err_and c.from_residual.result c.from_residual.ensures.1 in
    let held = g.F.Files.bytes_at c.args.files.now in
    let failed = g.F.Files.failed c.args.files.now in
    rw (p.1, p.2) ([], whole-left [] g.F.Files.tells held held failed failed c.in_err-first.field-0.0 c.in_err-first.ensures.spares (unchanged g.F.Files.tells held failed))

pub returns-in_err-first-clause-ends : goal.returns-in_err-first-clause-ends
returns-in_err-first-clause-ends g c =
    let p = err_from_is_err_and c.from_residual.result c.from_residual.ensures.1 in
    let files = c.args.files.now in
    rw (p.1, p.2) (λ called start way. first-ends g.F.Files (question_of c.args.self.now) files files start (g.C.Caller.calls c.first.new.caller) (none_failed g.F.Files files) (g.C.Caller.calls c.args.caller.now) c.args.minor c.in_err-first.field-0.0 way
    (λ w. makes_none (g.F.Files.trace files) (g.F.Files.bytes_at files)) (c.in_err-first.ensures.err called c.args.minor) c.in_err-first.ensures.spares)

pub returns-in_err-make_lockfile-clause-left : goal.returns-in_err-make_lockfile-clause-left
returns-in_err-make_lockfile-clause-left g c =
    let p = err_from_is_err_and c.from_residual-in_err-make_lockfile.result c.from_residual-in_err-make_lockfile.ensures.1 in
    rw (p.1, p.2) (c.as_str.result.now, c.in_err-make_lockfile.ensures.left)

pub returns-in_err-make_lockfile-clause-ends : goal.returns-in_err-make_lockfile-clause-ends
returns-in_err-make_lockfile-clause-ends g c =
    let p = err_from_is_err_and c.from_residual-in_err-make_lockfile.result c.from_residual-in_err-make_lockfile.ensures.1 in
    let text = string_bytes c.in_ok-first.first.text in
    let lock = subst (λ p. IsLockfile (string_bytes c.in_ok-first.first.text) p) (sym c.as_str.ensures.value) c.in_ok-first.ensures.lockfile in
    rw (p.1, p.2) (λ called start way. c.in_err-make_lockfile.ensures.err called start c.args.minor text lock (answers text way (c.in_ok-first.ensures.ok called)))

pub returns-in_err-asked-clause-ends : goal.returns-in_err-asked-clause-ends
returns-in_err-asked-clause-ends g c =
    let p = err_from_is_err_and c.from_residual-in_err-asked.result c.from_residual-in_err-asked.ensures.1 in
    let text = string_bytes c.in_ok-first.first.text in
    let lock = subst (λ p. IsLockfile (string_bytes c.in_ok-first.first.text) p) (sym c.as_str.ensures.value) c.in_ok-first.ensures.lockfile in
    rw (p.1, p.2) (λ called start way. (
      locked c.args.minor text,
      g.C.Caller.calls c.make_lockfile.new.caller,
      [],
      c.in_ok-make_lockfile.ensures.ok called start c.args.minor text lock (answers text way (c.in_ok-first.ensures.ok called)),
      inl refl,
      λ w. inl (c.in_ok-make_lockfile.ensures.untraced w),
      (c.as_str.result.now, lock, inl c.in_ok-make_lockfile.ensures.none, inl (refl, c.in_ok-make_lockfile.ensures.untraced)),
    ))

pub returns-in_err-told-clause-left : goal.returns-in_err-told-clause-left
returns-in_err-told-clause-left g c =
    let p = err_from_is_err_and c.from_residual-in_err-told.result c.from_residual-in_err-told.ensures.1 in
    let path = c.as_str-lockfile.result.now in
    rw (p.1, p.2) (
      path,
      left-more path g.F.Files.tells (g.F.Files.bytes_at c.args.files.now) (g.F.Files.bytes_at c.make_lockfile.new.files) (g.F.Files.bytes_at c.read_over.new.files)
          (g.F.Files.failed c.args.files.now) (g.F.Files.failed c.make_lockfile.new.files) (g.F.Files.failed c.read_over.new.files) c.in_err-told.field-0.0 c.in_ok-make_lockfile.ensures.left c.in_err-told.ensures.left,
    )

pub returns-in_err-told-clause-ends : goal.returns-in_err-told-clause-ends
returns-in_err-told-clause-ends g c =
    let p = err_from_is_err_and c.from_residual-in_err-told.result c.from_residual-in_err-told.ensures.1 in
    let q = question_of c.args.self.now in
    let words = map string_bytes c.args.self.now.full.items in
    let is : command_of c.in_ok-asked.asked ≡ by_stable (question_of c.args.self.now) (map string_bytes c.args.self.now.full.items) = search rules in
    let text = string_bytes c.in_ok-first.first.text in
    let path = c.as_str-lockfile.result.now in
    let lock = subst (λ p. IsLockfile (string_bytes c.in_ok-first.first.text) p) (sym c.as_str.ensures.value) c.in_ok-first.ensures.lockfile in
    let again = subst (λ p. IsLockfile (string_bytes c.in_ok-first.first.text) p) (sym c.as_str-lockfile.ensures.value) c.in_ok-first.ensures.lockfile in
    let mid = g.C.Caller.calls c.make_lockfile.new.caller in
    let new = g.C.Caller.calls c.read_over.new.caller in
    rw (p.1, p.2) (λ called start way. (
      locked c.args.minor text,
      mid,
      [],
      c.in_ok-make_lockfile.ensures.ok called start c.args.minor text lock (answers text way (c.in_ok-first.ensures.ok called)),
      over-stops g.C.Caller.tells q mid new c.args.minor text path (command_of c.in_ok-asked.asked) c.in_err-told.field-0.0 called again (words, refl, is) c.in_err-told.ensures.err,
      over-wrote g.F.Files.tells g.F.Files.whole (g.F.Files.bytes_at c.args.files.now) (g.F.Files.bytes_at c.make_lockfile.new.files) (g.F.Files.bytes_at c.read_over.new.files) (g.F.Files.trace c.args.files.now) (g.F.Files.trace c.make_lockfile.new.files) (g.F.Files.trace c.read_over.new.files)
          (g.F.Files.failed c.args.files.now) (g.F.Files.failed c.make_lockfile.new.files) path text c.in_ok-make_lockfile.ensures.left again c.in_ok-make_lockfile.ensures.untraced c.args.minor c.in_err-told.ensures.refused,
      (
        path,
        again,
        path-then g.F.Files path c.args.files.now c.make_lockfile.new.files c.read_over.new.files c.in_err-told.field-0.0 c.in_ok-make_lockfile.ensures.none c.in_ok-make_lockfile.ensures.same c.in_err-told.ensures.calls,
        put-then g.F.Files path _ (new ≡ mid) c.args.files.now c.make_lockfile.new.files c.read_over.new.files (λ same. same called) c.in_ok-make_lockfile.ensures.none c.in_ok-make_lockfile.ensures.same c.in_ok-make_lockfile.ensures.untraced c.in_err-told.ensures.undone,
      ),
    ))

pub returns-in-Some-clause-stays : goal.returns-in-Some-clause-stays
returns-in-Some-clause-stays g c = g.F.Files.stays_more _ _ _ c.in_ok-make_lockfile.ensures.stays c.in_ok-told.ensures.stays

pub returns-in-Some-clause-left : goal.returns-in-Some-clause-left
returns-in-Some-clause-left g c = (
  [],
  whole-leaves [] g.F.Files.tells (g.F.Files.bytes_at c.args.files.now) (g.F.Files.bytes_at c.read_over.new.files) (g.F.Files.failed c.args.files.now) (g.F.Files.failed c.read_over.new.files) c.metadata_in.result
      (IfErr-weaker c.metadata_in.result _ _ (text-spares (read_metadata c.args.minor) c.as_str-in-Some.result.now (text_of c.args.self.now.args.now.verbose (string_bytes c.args.self.now.env.now.current_dir) (command_of c.in_ok-asked.asked))) c.metadata_in.ensures.err)
      (whole-more g.F.Files.tells (g.F.Files.bytes_at c.args.files.now) (g.F.Files.bytes_at c.make_lockfile.new.files) (g.F.Files.bytes_at c.read_over.new.files) (g.F.Files.failed c.args.files.now) (g.F.Files.failed c.make_lockfile.new.files) (g.F.Files.failed c.read_over.new.files) c.in_ok-make_lockfile.ensures.left c.in_ok-told.ensures.left),
)

pub returns-in-Some-clause-ends : goal.returns-in-Some-clause-ends
returns-in-Some-clause-ends g c =
    let q = question_of c.args.self.now in
    let words = map string_bytes c.args.self.now.full.items in
    let is : command_of c.in_ok-asked.asked ≡ by_stable (question_of c.args.self.now) (map string_bytes c.args.self.now.full.items) = search rules in
    let text = string_bytes c.in_ok-first.first.text in
    let path = c.as_str-lockfile.result.now in
    let lock = subst (λ p. IsLockfile (string_bytes c.in_ok-first.first.text) p) (sym c.as_str.ensures.value) c.in_ok-first.ensures.lockfile in
    let again = subst (λ p. IsLockfile (string_bytes c.in_ok-first.first.text) p) (sym c.as_str-lockfile.ensures.value) c.in_ok-first.ensures.lockfile in
    let mid = g.C.Caller.calls c.make_lockfile.new.caller in
    let new = g.C.Caller.calls c.read_over.new.caller in
    let told = string_bytes c.in-Some.text in
    let put = back-wrote g.F.Files.tells g.F.Files.whole (g.F.Files.bytes_at c.args.files.now) (g.F.Files.bytes_at c.make_lockfile.new.files) (g.F.Files.bytes_at c.read_over.new.files) (g.F.Files.trace c.args.files.now) (g.F.Files.trace c.make_lockfile.new.files) (g.F.Files.trace c.read_over.new.files)
    (g.F.Files.failed c.args.files.now) (g.F.Files.failed c.make_lockfile.new.files) path text c.in_ok-make_lockfile.ensures.left again c.in_ok-make_lockfile.ensures.untraced c.in_ok-told.ensures.back in
    λ called start way. counts-ends g.F.Files q c.args.files.now c.read_over.new.files start new (none_then g.F.Files _ _ _ c.in_ok-make_lockfile.ensures.none c.in_ok-told.ensures.calls) (by_stable q words) told c.args.minor (put.0 ∷ []) c.metadata_in.result
    (tells_newer words told refl (c.in_ok-make_lockfile.ensures.ok called start c.args.minor text lock (answers text way (c.in_ok-first.ensures.ok called)))
    (subst (λ k. ReadsOutput k told mid new) is (subst (λ o. MatchOption o (FailsToRead (command_of c.in_ok-asked.asked) mid new) (λ t. ReadsOutput (command_of c.in_ok-asked.asked) (string_bytes t) mid new)) c.in-Some.is (c.in_ok-told.ensures.ok called))) put.1)
    put.2 (asked-counts q new (by_stable q words) (command_of c.in_ok-asked.asked) told c.as_str-in-Some.result.now c.args.minor c.metadata_in.result is c.as_str-in-Some.ensures.value c.metadata_in.ensures.ok c.metadata_in.ensures.err)

pub returns-clause-stays : goal.returns-clause-stays
returns-clause-stays g c = g.F.Files.stays_more _ _ _ c.in_ok-make_lockfile.ensures.stays c.in_ok-told.ensures.stays

pub returns-clause-left : goal.returns-clause-left
returns-clause-left g c = (
  [],
  whole-leaves [] g.F.Files.tells (g.F.Files.bytes_at c.args.files.now) (g.F.Files.bytes_at c.read_over.new.files) (g.F.Files.failed c.args.files.now) (g.F.Files.failed c.read_over.new.files) c.fall_back.result c.fall_back.ensures.spares
      (whole-more g.F.Files.tells (g.F.Files.bytes_at c.args.files.now) (g.F.Files.bytes_at c.make_lockfile.new.files) (g.F.Files.bytes_at c.read_over.new.files) (g.F.Files.failed c.args.files.now) (g.F.Files.failed c.make_lockfile.new.files) (g.F.Files.failed c.read_over.new.files) c.in_ok-make_lockfile.ensures.left c.in_ok-told.ensures.left),
)

pub returns-clause-ends : goal.returns-clause-ends
returns-clause-ends g c =
    let q = question_of c.args.self.now in
    let words = map string_bytes c.args.self.now.full.items in
    let is : command_of c.in_ok-asked.asked ≡ by_stable (question_of c.args.self.now) (map string_bytes c.args.self.now.full.items) = search rules in
    let text = string_bytes c.in_ok-first.first.text in
    let path = c.as_str-lockfile.result.now in
    let lock = subst (λ p. IsLockfile (string_bytes c.in_ok-first.first.text) p) (sym c.as_str.ensures.value) c.in_ok-first.ensures.lockfile in
    let again = subst (λ p. IsLockfile (string_bytes c.in_ok-first.first.text) p) (sym c.as_str-lockfile.ensures.value) c.in_ok-first.ensures.lockfile in
    let mid = g.C.Caller.calls c.make_lockfile.new.caller in
    let old = g.C.Caller.calls c.read_over.new.caller in
    let put = back-wrote g.F.Files.tells g.F.Files.whole (g.F.Files.bytes_at c.args.files.now) (g.F.Files.bytes_at c.make_lockfile.new.files) (g.F.Files.bytes_at c.read_over.new.files) (g.F.Files.trace c.args.files.now) (g.F.Files.trace c.make_lockfile.new.files) (g.F.Files.trace c.read_over.new.files)
    (g.F.Files.failed c.args.files.now) (g.F.Files.failed c.make_lockfile.new.files) path text c.in_ok-make_lockfile.ensures.left again c.in_ok-make_lockfile.ensures.untraced c.in_ok-told.ensures.back in
    λ called start way. fallen-ends g.F.Files q c.args.files.now c.read_over.new.files start (g.C.Caller.calls c.fall_back.new.caller) (none_then g.F.Files _ _ _ c.in_ok-make_lockfile.ensures.none c.in_ok-told.ensures.calls) mid old c.args.minor text words c.fall_back.result refl
    (c.in_ok-make_lockfile.ensures.ok called start c.args.minor text lock (answers text way (c.in_ok-first.ensures.ok called)))
    (subst (λ k. FailsToRead k mid old) is (subst (λ o. MatchOption o (FailsToRead (command_of c.in_ok-asked.asked) mid old) (λ t. ReadsOutput (command_of c.in_ok-asked.asked) (string_bytes t) mid old)) c.in-None.is (c.in_ok-told.ensures.ok called)))
    put (c.fall_back.ensures.fell called c.in_ok-first.ensures.command)

pub returns-in_err-first-clause-spoilt : goal.returns-in_err-first-clause-spoilt
returns-in_err-first-clause-spoilt g c = but_none (g.F.Files.refuses c.args.files.now c.args.files.now) _ _ (g.F.Files.refuses_none _)

pub returns-in_err-make_lockfile-clause-spoilt : goal.returns-in_err-make_lockfile-clause-spoilt
returns-in_err-make_lockfile-clause-spoilt g c =
    but_same (g.F.Files.refuses c.args.files.now c.make_lockfile.new.files) _ _ _ (g.F.Files.refuses_some _ _ (left-grows {X = Unit {0}} _ _ _ _ _ _ (Err c.in_err-make_lockfile.field-0.0) c.in_err-make_lockfile.ensures.left)) c.in_err-make_lockfile.ensures.same

pub returns-in_err-asked-clause-spoilt : goal.returns-in_err-asked-clause-spoilt
returns-in_err-asked-clause-spoilt g c =
    but_same (g.F.Files.refuses c.args.files.now c.make_lockfile.new.files) _ _ _ (g.F.Files.refuses_some _ _ (0, c.in_ok-make_lockfile.ensures.left.0)) c.in_ok-make_lockfile.ensures.same

pub returns-in_err-told-clause-spoilt : goal.returns-in_err-told-clause-spoilt
returns-in_err-told-clause-spoilt g c =
    but_then (g.F.Files.refuses c.args.files.now c.make_lockfile.new.files) (g.F.Files.refuses c.make_lockfile.new.files c.read_over.new.files) (g.F.Files.refuses c.args.files.now c.read_over.new.files) _ _ _ _ (λ ps qs one other. g.F.Files.refuses_more _ _ _ ps qs one other)
    (but_same _ _ _ _ (g.F.Files.refuses_some _ _ (0, c.in_ok-make_lockfile.ensures.left.0)) c.in_ok-make_lockfile.ensures.same)
    c.in_err-told.ensures.spoilt

pub returns-in-Some-clause-spoilt : goal.returns-in-Some-clause-spoilt
returns-in-Some-clause-spoilt g c =
    but_then (g.F.Files.refuses c.args.files.now c.make_lockfile.new.files) (g.F.Files.refuses c.make_lockfile.new.files c.read_over.new.files) (g.F.Files.refuses c.args.files.now c.read_over.new.files) _ _ _ _ (λ ps qs one other. g.F.Files.refuses_more _ _ _ ps qs one other)
    (but_same _ _ _ _ (g.F.Files.refuses_some _ _ (0, c.in_ok-make_lockfile.ensures.left.0)) c.in_ok-make_lockfile.ensures.same)
    c.in_ok-told.ensures.spoilt

pub returns-clause-spoilt : goal.returns-clause-spoilt
returns-clause-spoilt g c =
    but_then (g.F.Files.refuses c.args.files.now c.make_lockfile.new.files) (g.F.Files.refuses c.make_lockfile.new.files c.read_over.new.files) (g.F.Files.refuses c.args.files.now c.read_over.new.files) _ _ _ _ (λ ps qs one other. g.F.Files.refuses_more _ _ _ ps qs one other)
    (but_same _ _ _ _ (g.F.Files.refuses_some _ _ (0, c.in_ok-make_lockfile.ensures.left.0)) c.in_ok-make_lockfile.ensures.same)
    c.in_ok-told.ensures.spoilt

pub returns-in_err-make_lockfile-clause-course : goal.returns-in_err-make_lockfile-clause-course
returns-in_err-make_lockfile-clause-course g c = g.C.Caller.course_more _ _ _ c.in_ok-first.ensures.course c.in_err-make_lockfile.ensures.course

pub returns-in_err-asked-clause-course : goal.returns-in_err-asked-clause-course
returns-in_err-asked-clause-course g c = g.C.Caller.course_more _ _ _ c.in_ok-first.ensures.course c.in_ok-make_lockfile.ensures.course

pub returns-in_err-told-clause-stays : goal.returns-in_err-told-clause-stays
returns-in_err-told-clause-stays g c = g.F.Files.stays_more _ _ _ c.in_ok-make_lockfile.ensures.stays c.in_err-told.ensures.stays

pub returns-in_err-told-clause-course : goal.returns-in_err-told-clause-course
returns-in_err-told-clause-course g c =
    g.C.Caller.course_more _ _ _ (g.C.Caller.course_more _ _ _ c.in_ok-first.ensures.course c.in_ok-make_lockfile.ensures.course) c.in_err-told.ensures.course

pub returns-in-Some-clause-course : goal.returns-in-Some-clause-course
returns-in-Some-clause-course g c =
    g.C.Caller.course_more _ _ _ (g.C.Caller.course_more _ _ _ c.in_ok-first.ensures.course c.in_ok-make_lockfile.ensures.course) c.in_ok-told.ensures.course

pub returns-clause-course : goal.returns-clause-course
returns-clause-course g c =
    g.C.Caller.course_more _ _ _ (g.C.Caller.course_more _ _ _ (g.C.Caller.course_more _ _ _ c.in_ok-first.ensures.course c.in_ok-make_lockfile.ensures.course) c.in_ok-told.ensures.course) c.fall_back.ensures.course

pub returns-in_err-first-clause-calls : goal.returns-in_err-first-clause-calls
returns-in_err-first-clause-calls g c =
    let p = err_from_is_err_and c.from_residual.result c.from_residual.ensures.1 in
    rw (p.1, p.2) ([], none-only g.F.Files {X = Unit {0}} [] c.args.files.now c.args.files.now (Err c.in_err-first.field-0.0) c.in_err-first.ensures.spares (none_failed g.F.Files c.args.files.now))

pub returns-in_err-make_lockfile-clause-calls : goal.returns-in_err-make_lockfile-clause-calls
returns-in_err-make_lockfile-clause-calls g c =
    let p = err_from_is_err_and c.from_residual-in_err-make_lockfile.result c.from_residual-in_err-make_lockfile.ensures.1 in
    rw (p.1, p.2) (c.as_str.result.now, look-path g.F.Files c.as_str.result.now c.args.files.now c.make_lockfile.new.files c.in_err-make_lockfile.field-0.0 c.in_err-make_lockfile.ensures.looked)

pub returns-in_err-asked-clause-calls : goal.returns-in_err-asked-clause-calls
returns-in_err-asked-clause-calls g c =
    let p = err_from_is_err_and c.from_residual-in_err-asked.result c.from_residual-in_err-asked.ensures.1 in
    rw (p.1, p.2) (c.as_str.result.now, inl c.in_ok-make_lockfile.ensures.none)

pub returns-in_err-told-clause-calls : goal.returns-in_err-told-clause-calls
returns-in_err-told-clause-calls g c =
    let p = err_from_is_err_and c.from_residual-in_err-told.result c.from_residual-in_err-told.ensures.1 in
    let path = c.as_str-lockfile.result.now in
    rw (p.1, p.2) (path, path-then g.F.Files path c.args.files.now c.make_lockfile.new.files c.read_over.new.files c.in_err-told.field-0.0 c.in_ok-make_lockfile.ensures.none c.in_ok-make_lockfile.ensures.same c.in_err-told.ensures.calls)

pub returns-in-Some-clause-calls : goal.returns-in-Some-clause-calls
returns-in-Some-clause-calls g c = (
  [],
  none-only g.F.Files [] c.args.files.now c.read_over.new.files c.metadata_in.result
      (IfErr-weaker c.metadata_in.result _ _ (text-spares (read_metadata c.args.minor) c.as_str-in-Some.result.now (text_of c.args.self.now.args.now.verbose (string_bytes c.args.self.now.env.now.current_dir) (command_of c.in_ok-asked.asked))) c.metadata_in.ensures.err)
      (none_then g.F.Files _ _ _ c.in_ok-make_lockfile.ensures.none c.in_ok-told.ensures.calls),
)

pub returns-clause-calls : goal.returns-clause-calls
returns-clause-calls g c = (
  [],
  none-only g.F.Files [] c.args.files.now c.read_over.new.files c.fall_back.result c.fall_back.ensures.spares (none_then g.F.Files _ _ _ c.in_ok-make_lockfile.ensures.none c.in_ok-told.ensures.calls),
)
