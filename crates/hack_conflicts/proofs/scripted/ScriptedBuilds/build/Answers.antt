use Rattle.std.proofs.Common.{[], sym, subst, refl, inl}
use Rattle.std.proofs.lemmas.Bool.{false≢true}
use Rattle.std.proofs.lemmas.List.Elements.{All-nil, All-cons}
use Rattle.hack_conflicts.specs.Sets.{rows_of, HasInside}
use Rattle.hack_conflicts.specs.Runs.{Run}
use Rattle.hack_conflicts.specs.Scripts.{IsAnswer}
use Rattle.hack_conflicts.specs.declared.tried.BuildOutcome.TheVariants.{Passed, Failed}
use Rattle.hack_conflicts.proofs.scripted.ScriptedBuilds.build.Goals as goal

pub returns-then-has_inside-2 : goal.returns-then-has_inside-2
returns-then-has_inside-2 c = record {
  same = refl;
  each = All-cons (λ (run : Run). IsAnswer c.args.self.now run.set run.outcome) (record { set = c.args.set.now; outcome = Passed }) [] (
    λ h. false≢true (c.if-has_inside.ensures.1 (subst (λ l. HasInside (rows_of l) c.args.set.now) (sym c.as_slice.ensures.value) h)),
    inl (subst (λ l. HasInside (rows_of l) c.args.set.now) c.as_slice-2.ensures.value (c.if-has_inside-2.ensures.0 refl)),
  )
      (All-nil (λ (run : Run). IsAnswer c.args.self.now run.set run.outcome));
}

pub returns-then-has_inside-3 : goal.returns-then-has_inside-3
returns-then-has_inside-3 c = record {
  same = refl;
  each = All-cons (λ (run : Run). IsAnswer c.args.self.now run.set run.outcome) (record { set = c.args.set.now; outcome = Failed }) [] (
    λ h. false≢true (c.if-has_inside.ensures.1 (subst (λ l. HasInside (rows_of l) c.args.set.now) (sym c.as_slice.ensures.value) h)),
    λ h. false≢true (c.if-has_inside-2.ensures.1 (subst (λ l. HasInside (rows_of l) c.args.set.now) (sym c.as_slice-2.ensures.value) h)),
    subst (λ l. HasInside (rows_of l) c.args.set.now) c.as_slice-3.ensures.value (c.if-has_inside-3.ensures.0 refl),
  )
      (All-nil (λ (run : Run). IsAnswer c.args.self.now run.set run.outcome));
}
