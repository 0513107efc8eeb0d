use Rattle.std.proofs.Common.{◌≡◌, ◌+◌, ◌++◌, ◌∷◌, [], List, Bool, get_or, take, arith, sym, subst, ap, ◌∙◌, refl, inl, inr}
use Rattle.std.specs.Prelude.{AllPairs}
use Rattle.std.proofs.lemmas.Bool.{false≢true}
use Rattle.std.proofs.lemmas.List.{take_more}
use Rattle.hack_conflicts.specs.Sets.{rows_of, IsInside, AreApart}
use Rattle.hack_conflicts.specs.Runs.{Run, runs_in}
use Rattle.hack_conflicts.specs.Internal.{AreOthers, KeepsOthers}
use Rattle.hack_conflicts.specs.declared.tried.BuildOutcome.TheVariants.{Broken}
use Rattle.hack_conflicts.proofs.KnownLemmas.{length-runs}
use Rattle.hack_conflicts.proofs.QueueLemmas.{rows-push}
use Rattle.hack_conflicts.proofs.GreatestLemmas.{others_same, others_more}
use Rattle.hack_conflicts.proofs.greatest.add_run.Goals as goal

pub returns-then-not-has_passed : goal.returns-then-not-has_passed
returns-then-not-has_passed c =
    let runs : List Run = runs_in c.args.runs.now in
    let run : Run = get_or runs c.args.place (record { set = []; outcome = Broken }) in
    let first : List (List Bool) = rows_of c.args.first.now in
    let others : List (List Bool) = rows_of c.args.others.items in
    let front : List Run = take c.args.place runs in
    let next : take (c.args.place + 1) runs ≡ front ++ run ∷ [] = take_more runs c.args.place (record { set = []; outcome = Broken }) (omega (arith, length-runs c.args.runs.now, c.requires.inside)) in
    subst (λ l. AreOthers first l others) (sym next) (others_same first front run others c.requires.others (λ passed. absurd (false≢true (c.if-not-has_passed.ensures.1 passed))))

pub returns-then-is_inside : goal.returns-then-is_inside
returns-then-is_inside c =
    let runs : List Run = runs_in c.args.runs.now in
    let run : Run = get_or runs c.args.place (record { set = []; outcome = Broken }) in
    let first : List (List Bool) = rows_of c.args.first.now in
    let others : List (List Bool) = rows_of c.args.others.items in
    let front : List Run = take c.args.place runs in
    let next : take (c.args.place + 1) runs ≡ front ++ run ∷ [] = take_more runs c.args.place (record { set = []; outcome = Broken }) (omega (arith, length-runs c.args.runs.now, c.requires.inside)) in
    subst (λ l. AreOthers first l others) (sym next) (others_same first front run others c.requires.others (λ passed. inl (subst (IsInside first) c.set_of-set.ensures (c.if-is_inside.ensures.0 refl))))

pub returns-then-is_inside-2 : goal.returns-then-is_inside-2
returns-then-is_inside-2 c =
    let runs : List Run = runs_in c.args.runs.now in
    let run : Run = get_or runs c.args.place (record { set = []; outcome = Broken }) in
    let first : List (List Bool) = rows_of c.args.first.now in
    let others : List (List Bool) = rows_of c.args.others.items in
    let front : List Run = take c.args.place runs in
    let next : take (c.args.place + 1) runs ≡ front ++ run ∷ [] = take_more runs c.args.place (record { set = []; outcome = Broken }) (omega (arith, length-runs c.args.runs.now, c.requires.inside)) in
    subst (λ l. AreOthers first l others) (sym next) (others_same first front run others c.requires.others
    (λ passed. inr (subst (IsInside others) c.set_of-set.ensures (subst (λ l. IsInside (rows_of l) c.set_of-set.result.now) c.as_slice.ensures.value (c.if-is_inside-2.ensures.0 refl)))))

pub without_inner-requires : goal.without_inner-requires
without_inner-requires c = subst (λ l. AllPairs AreApart (rows_of l)) (sym c.as_slice-2.ensures.value) c.requires.others.apart

pub returns : goal.returns
returns c =
    let runs : List Run = runs_in c.args.runs.now in
    let run : Run = get_or runs c.args.place (record { set = []; outcome = Broken }) in
    let first : List (List Bool) = rows_of c.args.first.now in
    let others : List (List Bool) = rows_of c.args.others.items in
    let front : List Run = take c.args.place runs in
    let next : take (c.args.place + 1) runs ≡ front ++ run ∷ [] = take_more runs c.args.place (record { set = []; outcome = Broken }) (omega (arith, length-runs c.args.runs.now, c.requires.inside)) in
    let left : List (List Bool) = rows_of c.in_ok-left.left.items in
    let e : rows_of c.push.new.self.items ≡ left ++ run.set ∷ [] =
    ap rows_of c.in_ok-push.ensures.items ∙ rows-push c.in_ok-left.left.items c.in_ok-from_slice.field-0 ∙ ap (λ s. left ++ s ∷ []) (c.in_ok-from_slice.ensures.items ∙ c.set_of-set.ensures) in
    let keeps : KeepsOthers run.set others left =
    subst (λ s. KeepsOthers s others left) c.set_of-set.ensures (subst (λ l. KeepsOthers c.set_of-set.result.now (rows_of l) left) c.as_slice-2.ensures.value c.in_ok-left.ensures) in
    subst (AreOthers first (take (c.args.place + 1) runs)) (sym e) (subst (λ l. AreOthers first l (left ++ run.set ∷ [])) (sym next)
    (others_more first front run others c.requires.others left
    (c.if-not-has_passed.ensures.0 refl)
    (λ i. false≢true (c.if-is_inside.ensures.1 (subst (IsInside first) (sym c.set_of-set.ensures) i)))
    (λ i. false≢true (c.if-is_inside-2.ensures.1 (subst (λ l. IsInside (rows_of l) c.set_of-set.result.now) (sym c.as_slice.ensures.value) (subst (IsInside others) (sym c.set_of-set.ensures) i))))
    keeps))
