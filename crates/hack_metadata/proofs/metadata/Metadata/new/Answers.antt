use Rattle.std.proofs.Common.{◌≡◌, ◌<◌, ◌≤◌, [], inl, inr, refl, sym, subst, rules}
use Rattle.std.specs.Prelude.{option_copied, string_bytes}
use Rattle.std.proofs.lemmas.Result.{err_from_is_err_and}
use Rattle.hack_metadata.specs.InternalAskView.{question_of}
use Rattle.hack_metadata.specs.QuestionCalls.{LeadsToStage, begun, newer, versioned, starts, tells_minor, is_older, is_newer}
use Rattle.hack_metadata.specs.InternalQuestionCalls.{AsksCargo}
use Rattle.hack_metadata.specs.Requests.{question, version_command}
use Rattle.hack_files.specs.TraceLaws.{makes_none}
use Rattle.hack_metadata.proofs.AskWays.{question-stops, unchanged, whole-leaves}
use Rattle.hack_files.proofs.FailedLemmas.{none_failed}
use Rattle.hack_metadata.specs.FailedQuestions.{EndsQuestion}
use Rattle.hack_metadata.proofs.FailedLemmas.{cargo-ends, none-only, question-none}
use Rattle.hack_metadata.proofs.metadata.Metadata.new.Goals as goal

pub returns-in_err-stable-clause-ends : goal.returns-in_err-stable-clause-ends
returns-in_err-stable-clause-ends g c =
    let p = err_from_is_err_and c.from_residual.result c.from_residual.ensures.1 in
    rw (p.1, p.2) (λ called. (begun, g.C.Caller.calls c.args.caller.now, [], starts, inr (version_command (string_bytes c.args.env.now.rustup), refl, c.in_err-stable.ensures.err called), λ w. makes_none (g.F.Files.trace c.args.files.now) (g.F.Files.bytes_at c.args.files.now), none_failed g.F.Files c.args.files.now))

pub returns-in_err-question-clause-ends : goal.returns-in_err-question-clause-ends
returns-in_err-question-clause-ends g c =
    let p = err_from_is_err_and c.from_residual-in_err-question.result c.from_residual-in_err-question.ensures.1 in
    let q = question c.args.args.now c.args.env.now c.args.cargo_version (option_copied c.args.host) in
    let new = g.C.Caller.calls c.stable_minor.new.caller in
    rw (p.1, p.2) (λ called. (
      versioned c.in_ok-stable.stable,
      new,
      [],
      tells_minor c.in_ok-stable.stable (c.in_ok-stable.ensures.ok called),
      question-stops q new c.in_ok-stable.stable c.in_err-question.field-0.0 c.in_err-question.ensures.err,
      λ w. makes_none (g.F.Files.trace c.args.files.now) (g.F.Files.bytes_at c.args.files.now),
      none_failed g.F.Files c.args.files.now,
    ))

pub returns-then-stable-cargo_version-clause-ends : goal.returns-then-stable-cargo_version-clause-ends
returns-then-stable-cargo_version-clause-ends g c =
    let held = g.F.Files.bytes_at c.args.files.now in
    let old = g.C.Caller.calls c.args.caller.now in
    let is : question_of c.in_ok-question.question ≡ question c.args.args.now c.args.env.now c.args.cargo_version (option_copied c.args.host) = c.in_ok-question.ensures.ok in
    let lt : c.args.cargo_version < c.in_ok-stable.stable = search rules in
    λ called. subst (λ x. EndsQuestion g.F.Files c.args.files.now c.ask_stable.new.files x old (g.C.Caller.calls c.ask_stable.new.caller) c.ask_stable.result) is
    (c.ask_stable.ensures.ends called old (subst (λ x. LeadsToStage g.F.Files.tells x held old (newer c.in_ok-stable.stable) (g.C.Caller.calls c.stable_minor.new.caller) []) (sym is)
    (is_newer (tells_minor c.in_ok-stable.stable (c.in_ok-stable.ensures.ok called)) lt)))

pub returns-clause-left : goal.returns-clause-left
returns-clause-left g c = ([], whole-leaves [] g.F.Files.tells (g.F.Files.bytes_at c.args.files.now) (g.F.Files.bytes_at c.args.files.now) (g.F.Files.failed c.args.files.now) (g.F.Files.failed c.args.files.now) c.ask_cargo.result c.ask_cargo.ensures.spares (unchanged g.F.Files.tells (g.F.Files.bytes_at c.args.files.now) (g.F.Files.failed c.args.files.now)))

pub returns-clause-ends : goal.returns-clause-ends
returns-clause-ends g c =
    let q = question c.args.args.now c.args.env.now c.args.cargo_version (option_copied c.args.host) in
    let held = g.F.Files.bytes_at c.args.files.now in
    let trace = g.F.Files.trace c.args.files.now in
    let old = g.C.Caller.calls c.args.caller.now in
    let mid = g.C.Caller.calls c.stable_minor.new.caller in
    let new = g.C.Caller.calls c.ask_cargo.new.caller in
    let is : question_of c.in_ok-question.question ≡ question c.args.args.now c.args.env.now c.args.cargo_version (option_copied c.args.host) = c.in_ok-question.ensures.ok in
    let le : c.in_ok-stable.stable ≤ c.args.cargo_version = search rules in
    λ called. cargo-ends g.F.Files q c.args.files.now c.args.files.now old new (none_failed g.F.Files c.args.files.now) mid [] c.ask_cargo.result (is_older (tells_minor c.in_ok-stable.stable (c.in_ok-stable.ensures.ok called)) le)
    (λ w. makes_none trace held) (subst (λ x. AsksCargo x mid new c.ask_cargo.result) is (c.ask_cargo.ensures.asked called))

pub returns-in_err-stable-clause-calls : goal.returns-in_err-stable-clause-calls
returns-in_err-stable-clause-calls g c =
    let p = err_from_is_err_and c.from_residual.result c.from_residual.ensures.1 in
    rw (p.1, p.2) ([], inl (none_failed g.F.Files c.args.files.now))

pub returns-in_err-question-clause-calls : goal.returns-in_err-question-clause-calls
returns-in_err-question-clause-calls g c =
    let p = err_from_is_err_and c.from_residual-in_err-question.result c.from_residual-in_err-question.ensures.1 in
    rw (p.1, p.2) ([], question-none g.F.Files [] c.args.files.now c.in_err-question.field-0.0 c.in_err-question.ensures.err)

pub returns-clause-calls : goal.returns-clause-calls
returns-clause-calls g c = ([], none-only g.F.Files [] c.args.files.now c.args.files.now c.ask_cargo.result c.ask_cargo.ensures.spares (none_failed g.F.Files c.args.files.now))

pub returns-then-stable-cargo_version-clause-course : goal.returns-then-stable-cargo_version-clause-course
returns-then-stable-cargo_version-clause-course g c = g.C.Caller.course_more _ _ _ c.in_ok-stable.ensures.course c.ask_stable.ensures.course
