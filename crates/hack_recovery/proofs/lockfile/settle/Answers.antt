use Rattle.std.proofs.Common.{◌≡◌, ◌∙◌, None, Some, ap, refl, false, inl, inr, string_bytes, sym, true}
use Rattle.std.specs.Prelude.{Ok}
use Rattle.std.proofs.lemmas.Bool.{false≢true}
use Rattle.std.proofs.lemmas.Result.{err_from_is_err_and}
use Rattle.hack_base.specs.Counters.{GrowsBy}
use Rattle.hack_base.specs.Streams.{stream_of}
use Rattle.hack_journal.proofs.RecoverLemmas.{put_or_not}
use Rattle.hack_places.proofs.CountLemmas.{grows_then}
use Rattle.hack_files.specs.View.{FilesView, files_view}
use Rattle.hack_recovery.specs.Telling.{SaysIfOther, SaysUnsettled}
use Rattle.hack_recovery.specs.Telling.SaysSettling.{settled, unseen, unsettled}
use Rattle.hack_recovery.proofs.WayLemmas.{told_still}
use Rattle.hack_recovery.proofs.SettledLemmas.{done_so, since_one, undone}
use Rattle.hack_recovery.proofs.lockfile.settle.Goals as goal
use Rattle.hack_recovery.proofs.lockfile.settle.Goals.{else-host+in_ok-is_settled-2, then-host+in_ok-is_settled}

pub returns-in_err-is_settled-clause-only : goal.returns-in_err-is_settled-clause-only
returns-in_err-is_settled-clause-only g c = λ t. elim (c.in_err-is_settled.ensures.only t) [
  | inl same ↦ inl same
  | inr more ↦ elim more [
    | inl is ↦ inr (inl (λ u. is ∙ ap Some c.deref.ensures.value ∙ sym (rw (c.in-Ok-Some.field-0-is, c.as_str.ensures.value) at c.in-Ok-Some.ensures.held u)))
    | inr refused ↦ inr (inr refused)
  ]
]

pub returns-in-Err-clause-said : goal.returns-in-Err-clause-said
returns-in-Err-clause-said g c =
    unseen c.in-Err.ensures.failures
    (record { before = c.args.files.now; after = c.look.new.files; unseen = (rw c.as_str.ensures.value at c.in-Err.ensures.unseen).unseen })
    (rw c.as_str-in-Err.ensures.value at c.tell_fault.ensures.said)

pub returns-in_err-is_settled-clause-said : goal.returns-in_err-is_settled-clause-said
returns-in_err-is_settled-clause-said g c =
    let p = err_from_is_err_and c.from_residual.result c.from_residual.ensures.1 in
    let held = rw (c.in-Ok-Some.field-0-is, c.as_str.ensures.value) at c.in-Ok-Some.ensures.held in
    rw (p.1, p.2, c.if-host.true) (unsettled c.in-Ok-Some.bytes.items held (λ t. c.in-Ok-Some.ensures.same t (string_bytes c.args.places.now.copy) ∙ held t) c.in-Ok-Some.ensures.failures c.in_err-is_settled.ensures.said)

pub returns-in_err-is_settled-2-clause-said : goal.returns-in_err-is_settled-2-clause-said
returns-in_err-is_settled-2-clause-said g c =
    let p = err_from_is_err_and c.from_residual-in_err-is_settled-2.result c.from_residual-in_err-is_settled-2.ensures.1 in
    let held = rw (c.in-Ok-Some.field-0-is, c.as_str.ensures.value) at c.in-Ok-Some.ensures.held in
    rw (p.1, p.2, c.if-host.false) (unsettled c.in-Ok-Some.bytes.items held (λ t. c.in-Ok-Some.ensures.same t (string_bytes c.args.places.now.copy) ∙ held t) c.in-Ok-Some.ensures.failures c.in_err-is_settled-2.ensures.said)

pub returns-then-not-is_settled-clause-said : goal.returns-then-not-is_settled-clause-said
returns-then-not-is_settled-clause-said g c =
    let held = rw (c.in-Ok-Some.field-0-is, c.as_str.ensures.value) at c.in-Ok-Some.ensures.held in
    let lockfile = string_bytes c.args.places.now.lockfile in
    let coloring = c.args.host.now.term.now.coloring in
    let dir = string_bytes c.args.host.now.env.now.current_dir in
    let was : FilesView = files_view g.L.Files c.args.lockfiles.now in
    let told : SaysUnsettled g.L.Files coloring lockfile was.failed (g.L.Files.failed c.if-host.lockfiles) (Ok false) (stream_of g.E.Sink c.args.host.now.err.now) (stream_of g.E.Sink c.if-host.host.err.now) = elim c.if-host.branch [
      | then-host+in_ok-is_settled w ↦
          rw (w.host-is, w.lockfiles-is) (undone g.L.Files true coloring dir lockfile _ was (files_view g.L.Files w.give_back.new.lockfiles) w.in_ok-is_settled.is_settled _ _ (sym w.is_settled-is ∙ c.if-not-is_settled.true) w.in_ok-is_settled.ensures.said)
      | else-host+in_ok-is_settled-2 w ↦
          rw (w.host-is, w.lockfiles-is) (undone g.L.Files false coloring dir lockfile _ was (files_view g.L.Files w.leave.new.lockfiles) w.in_ok-is_settled-2.is_settled _ _ (sym w.is_settled-is ∙ c.if-not-is_settled.true) w.in_ok-is_settled-2.ensures.said)
    ] in
    unsettled c.in-Ok-Some.bytes.items held (λ t. c.in-Ok-Some.ensures.same t (string_bytes c.args.places.now.copy) ∙ held t) c.in-Ok-Some.ensures.failures told

pub returns-clause-said : goal.returns-clause-said
returns-clause-said g c =
    let held = rw (c.in-Ok-Some.field-0-is, c.as_str.ensures.value) at c.in-Ok-Some.ensures.held in
    let copy = string_bytes c.args.places.now.copy in
    let lockfile = string_bytes c.args.places.now.lockfile in
    let dir = string_bytes c.args.host.now.env.now.current_dir in
    let coloring = c.args.host.now.term.now.coloring in
    let bytes = c.in-Ok-Some.bytes.items in
    let was : FilesView = files_view g.L.Files c.args.lockfiles.now in
    let told : SaysIfOther c.args.host.now.env.now.by_guard coloring dir lockfile g.L.Files.tells (was.held lockfile) bytes (stream_of g.E.Sink c.args.host.now.err.now) (stream_of g.E.Sink c.if-host.host.err.now) = elim c.if-host.branch [
      | then-host+in_ok-is_settled w ↦
          rw (w.host-is, w.if-host.true) (rw w.deref.ensures.value at (done_so g.L.Files true coloring dir lockfile w.deref.result.now was (files_view g.L.Files w.give_back.new.lockfiles) w.in_ok-is_settled.is_settled _ _ (sym w.is_settled-is ∙ c.if-not-is_settled.false) w.in_ok-is_settled.ensures.said))
      | else-host+in_ok-is_settled-2 w ↦
          rw (w.host-is, w.if-host.false) (rw w.deref-else-host.ensures.value at (done_so g.L.Files false coloring dir lockfile w.deref-else-host.result.now was (files_view g.L.Files w.leave.new.lockfiles) w.in_ok-is_settled-2.is_settled _ _ (sym w.is_settled-is ∙ c.if-not-is_settled.false) w.in_ok-is_settled-2.ensures.said))
    ] in
    let still : c.if-host.host.term.now ≡ c.args.host.now.term.now = elim c.if-host.branch [
      | then-host+in_ok-is_settled w ↦
          rw w.host-is (told_still _ _ w.in_ok-is_settled.is_settled (sym w.is_settled-is ∙ c.if-not-is_settled.false) w.in_ok-is_settled.ensures.told)
      | else-host+in_ok-is_settled-2 w ↦
          rw w.host-is (told_still _ _ w.in_ok-is_settled-2.is_settled (sym w.is_settled-is ∙ c.if-not-is_settled.false) w.in_ok-is_settled-2.ensures.told)
    ] in
    let counted : GrowsBy 0 was.failed (g.L.Files.failed c.if-host.lockfiles) = elim c.if-host.branch [
      | then-host+in_ok-is_settled w ↦ rw w.lockfiles-is (w.in_ok-is_settled.ensures.counted (ap Ok (sym w.is_settled-is ∙ c.if-not-is_settled.false)))
      | else-host+in_ok-is_settled-2 w ↦ rw w.lockfiles-is (w.in_ok-is_settled-2.ensures.counted (ap Ok (sym w.is_settled-is ∙ c.if-not-is_settled.false)))
    ] in
    settled bytes (stream_of g.E.Sink c.if-host.host.err.now) held counted told
    (since_one _ _ coloring copy c.drop_copy.result _ _ (λ one. (grows_then 1 _ _ _ c.in-Ok-Some.ensures.failures one.0, one.1)) (rw still at c.drop_copy.ensures.said))

pub returns-in_err-is_settled-clause-wrote : goal.returns-in_err-is_settled-clause-wrote
returns-in_err-is_settled-clause-wrote g c = λ whole.
    let held = rw (c.in-Ok-Some.field-0-is, c.as_str.ensures.value) at c.in-Ok-Some.ensures.held in
    inr (c.in-Ok-Some.bytes.items, held, rw c.deref.ensures.value at (c.in_err-is_settled.ensures.wrote whole))

pub returns-clause-made : goal.returns-clause-made
returns-clause-made g c = λ whole.
    put_or_not (string_bytes c.args.places.now.copy) _ None _ _ _ _ _ _ _ refl refl (c.in-Ok-Some.ensures.untraced whole) (c.drop_copy.ensures.made whole)

pub returns-then-not-is_settled-clause-wrote : goal.returns-then-not-is_settled-clause-wrote
returns-then-not-is_settled-clause-wrote g c = λ whole.
    let held = rw (c.in-Ok-Some.field-0-is, c.as_str.ensures.value) at c.in-Ok-Some.ensures.held in
    elim c.if-host.branch [
      | then-host+in_ok-is_settled w ↦ rw w.lockfiles-is (inr (c.in-Ok-Some.bytes.items, held, rw w.deref.ensures.value at (w.in_ok-is_settled.ensures.wrote whole)))
      | else-host+in_ok-is_settled-2 w ↦ rw w.lockfiles-is (inl (w.in_ok-is_settled-2.ensures.untraced whole))
    ]

pub returns-clause-wrote : goal.returns-clause-wrote
returns-clause-wrote g c = λ whole.
    let held = rw (c.in-Ok-Some.field-0-is, c.as_str.ensures.value) at c.in-Ok-Some.ensures.held in
    elim c.if-host.branch [
      | then-host+in_ok-is_settled w ↦ rw w.lockfiles-is (inr (c.in-Ok-Some.bytes.items, held, rw w.deref.ensures.value at (w.in_ok-is_settled.ensures.wrote whole)))
      | else-host+in_ok-is_settled-2 w ↦ rw w.lockfiles-is (inl (w.in_ok-is_settled-2.ensures.untraced whole))
    ]

pub returns-then-not-is_settled-clause-untraced : goal.returns-then-not-is_settled-clause-untraced
returns-then-not-is_settled-clause-untraced g c = λ off whole. elim c.if-host.branch [
  | then-host+in_ok-is_settled w ↦ absurd (false≢true (sym off ∙ w.if-host.true))
  | else-host+in_ok-is_settled-2 w ↦ rw w.lockfiles-is (w.in_ok-is_settled-2.ensures.untraced whole)
]

pub returns-clause-untraced : goal.returns-clause-untraced
returns-clause-untraced g c = λ off whole. elim c.if-host.branch [
  | then-host+in_ok-is_settled w ↦ absurd (false≢true (sym off ∙ w.if-host.true))
  | else-host+in_ok-is_settled-2 w ↦ rw w.lockfiles-is (w.in_ok-is_settled-2.ensures.untraced whole)
]
