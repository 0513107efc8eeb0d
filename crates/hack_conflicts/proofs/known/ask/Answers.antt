use Rattle.std.proofs.Common.{◌≡◌, ◌++◌, ◌∷◌, [], arith, sym, subst, ◌∙◌, ap, length, ◌+◌}
use Rattle.std.proofs.lemmas.List.{length-append}
use Rattle.std.proofs.lemmas.Bool.{false≢true}
use Rattle.hack_conflicts.specs.Runs.{IsSpent}
use Rattle.hack_conflicts.specs.Internal.{told}
use Rattle.hack_conflicts.specs.declared.tried.BuildOutcome.{BuildOutcome}
use Rattle.hack_conflicts.specs.declared.tried.BuildOutcome.TheVariants.{Broken}
use Rattle.hack_conflicts.proofs.KnownLemmas.{sound_same, grows_same, sound_ran, grows_ran, run_there, still_within, length-runs}
use Rattle.hack_conflicts.proofs.known.ask.Goals as goal

pub returns-in_err-begin-clause-sound : goal.returns-in_err-begin-clause-sound
returns-in_err-begin-clause-sound g c = λ r sound next.
    let e = c.in_err-begin.ensures in
    sound_same c.args.known.now c.begin.new.self e.err e.same_conflicts e.same_passing r c.args.most sound

pub returns-in_err-begin-clause-grows : goal.returns-in_err-begin-clause-grows
returns-in_err-begin-clause-grows g c =
    let e = c.in_err-begin.ensures in
    grows_same c.args.known.now c.begin.new.self e.err e.same_conflicts e.same_passing

pub returns-in-Passed-clause-sound : goal.returns-in-Passed-clause-sound
returns-in-Passed-clause-sound g c = λ r sound next.
    let k = c.args.known.now in
    let m = c.finish.new.self in
    let o : BuildOutcome = c.build-outcome.result in
    let ran : told m ≡ told k ++ record { set = c.args.set.now; outcome = o } ∷ [] = c.finish.ensures.runs (told k) c.args.set.now c.in_ok-begin.ensures.runs in
    let same : c.len.result ≡ length k.runs.items = omega (arith, c.len.ensures, k.runs.ok.0) in
    let more : length (told m) ≡ length k.runs.items + 1 = ap length ran ∙ length-append (told k) (record { set = c.args.set.now; outcome = o } ∷ []) ∙ ap (λ n. n + 1) (length-runs k.runs.items) in
    sound_ran k m c.args.set.now o ran (c.finish.ensures.same_conflicts ∙ c.in_ok-begin.ensures.same_conflicts) (c.finish.ensures.same_passing ∙ c.in_ok-begin.ensures.same_passing) r c.args.most sound next
    (still_within c.args.most (length k.runs.items) (length (told m)) (λ spent. false≢true (c.if-is_spent.ensures.1 (subst (IsSpent c.args.most) (sym same) spent))) more)

pub returns-in-Passed-clause-grows : goal.returns-in-Passed-clause-grows
returns-in-Passed-clause-grows g c =
    let k = c.args.known.now in
    let m = c.finish.new.self in
    grows_ran k m c.args.set.now c.build-outcome.result (c.finish.ensures.runs (told k) c.args.set.now c.in_ok-begin.ensures.runs) (c.finish.ensures.same_conflicts ∙ c.in_ok-begin.ensures.same_conflicts) (c.finish.ensures.same_passing ∙ c.in_ok-begin.ensures.same_passing)

pub returns-in-Failed-clause-sound : goal.returns-in-Failed-clause-sound
returns-in-Failed-clause-sound g c = λ r sound next.
    let k = c.args.known.now in
    let m = c.finish.new.self in
    let o : BuildOutcome = c.build-outcome.result in
    let ran : told m ≡ told k ++ record { set = c.args.set.now; outcome = o } ∷ [] = c.finish.ensures.runs (told k) c.args.set.now c.in_ok-begin.ensures.runs in
    let same : c.len.result ≡ length k.runs.items = omega (arith, c.len.ensures, k.runs.ok.0) in
    let more : length (told m) ≡ length k.runs.items + 1 = ap length ran ∙ length-append (told k) (record { set = c.args.set.now; outcome = o } ∷ []) ∙ ap (λ n. n + 1) (length-runs k.runs.items) in
    sound_ran k m c.args.set.now o ran (c.finish.ensures.same_conflicts ∙ c.in_ok-begin.ensures.same_conflicts) (c.finish.ensures.same_passing ∙ c.in_ok-begin.ensures.same_passing) r c.args.most sound next
    (still_within c.args.most (length k.runs.items) (length (told m)) (λ spent. false≢true (c.if-is_spent.ensures.1 (subst (IsSpent c.args.most) (sym same) spent))) more)

pub returns-in-Failed-clause-grows : goal.returns-in-Failed-clause-grows
returns-in-Failed-clause-grows g c =
    let k = c.args.known.now in
    let m = c.finish.new.self in
    grows_ran k m c.args.set.now c.build-outcome.result (c.finish.ensures.runs (told k) c.args.set.now c.in_ok-begin.ensures.runs) (c.finish.ensures.same_conflicts ∙ c.in_ok-begin.ensures.same_conflicts) (c.finish.ensures.same_passing ∙ c.in_ok-begin.ensures.same_passing)

pub returns-in-Broken-clause-sound : goal.returns-in-Broken-clause-sound
returns-in-Broken-clause-sound g c = λ r sound next.
    let k = c.args.known.now in
    let m = c.finish.new.self in
    let o : BuildOutcome = c.build-outcome.result in
    let ran : told m ≡ told k ++ record { set = c.args.set.now; outcome = o } ∷ [] = c.finish.ensures.runs (told k) c.args.set.now c.in_ok-begin.ensures.runs in
    let same : c.len.result ≡ length k.runs.items = omega (arith, c.len.ensures, k.runs.ok.0) in
    let more : length (told m) ≡ length k.runs.items + 1 = ap length ran ∙ length-append (told k) (record { set = c.args.set.now; outcome = o } ∷ []) ∙ ap (λ n. n + 1) (length-runs k.runs.items) in
    sound_ran k m c.args.set.now o ran (c.finish.ensures.same_conflicts ∙ c.in_ok-begin.ensures.same_conflicts) (c.finish.ensures.same_passing ∙ c.in_ok-begin.ensures.same_passing) r c.args.most sound next
    (still_within c.args.most (length k.runs.items) (length (told m)) (λ spent. false≢true (c.if-is_spent.ensures.1 (subst (IsSpent c.args.most) (sym same) spent))) more)

pub returns-in-Broken-clause-grows : goal.returns-in-Broken-clause-grows
returns-in-Broken-clause-grows g c =
    let k = c.args.known.now in
    let m = c.finish.new.self in
    grows_ran k m c.args.set.now c.build-outcome.result (c.finish.ensures.runs (told k) c.args.set.now c.in_ok-begin.ensures.runs) (c.finish.ensures.same_conflicts ∙ c.in_ok-begin.ensures.same_conflicts) (c.finish.ensures.same_passing ∙ c.in_ok-begin.ensures.same_passing)

pub returns-in-Broken-clause-ends : goal.returns-in-Broken-clause-ends
returns-in-Broken-clause-ends g c = λ r next.
    let k = c.args.known.now in
    let m = c.finish.new.self in
    let ran : told m ≡ told k ++ record { set = c.args.set.now; outcome = Broken } ∷ [] =
    subst (λ o. told m ≡ told k ++ record { set = c.args.set.now; outcome = o } ∷ []) c.in-Broken.is (c.finish.ensures.runs (told k) c.args.set.now c.in_ok-begin.ensures.runs) in
    (c.args.set.now, run_there k m c.args.set.now Broken ran (c.finish.ensures.same_conflicts ∙ c.in_ok-begin.ensures.same_conflicts) (c.finish.ensures.same_passing ∙ c.in_ok-begin.ensures.same_passing))
