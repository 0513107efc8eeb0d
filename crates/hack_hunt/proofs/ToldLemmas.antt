-- What is told of a search was run.
use Rattle.std.specs.Prelude.{ℕ, ◌≡◌, ◌≢◌, Bool, List, [], ◌∷◌, All, Contains, IfSome, Option, None, Some, length}
use Rattle.std.specs.List.{AllZip}
use Rattle.std.proofs.Common.{ap, inl, inr, refl, subst, ◌∙◌}
use Rattle.std.proofs.lemmas.List.Elements.{All-cons, All-contains, All-head, All-nil, All-tail}
use Rattle.std.proofs.lemmas.List.Sorted.{All-permutation}
use Rattle.hack_closures.proofs.TopLemmas.{first_once, stands_some}
use Rattle.hack_closures.specs.Closures.{IsBuildFor}
use Rattle.hack_closures.specs.View.{alone_in, choice_in, has_all, search_of}
use Rattle.hack_closures.specs.declared.build.Build.{Build}
use Rattle.hack_closures.specs.declared.build.Build.TheVariants as build
use Rattle.hack_conflicts.specs.Runs.{Finding}
use Rattle.hack_conflicts.specs.declared.tried.BuildOutcome.{BuildOutcome}
use Rattle.hack_conflicts.specs.declared.tried.BuildOutcome.TheVariants.{Broken, Failed, Passed}
use Rattle.hack_culprits.specs.Built.{IsBuilt, IsHunt, Made, run_for}
use Rattle.hack_culprits.specs.declared.aim.Aim.{Aim}
use Rattle.hack_plan.specs.Runs.{PackageRun, Set}
use Rattle.hack_plan.specs.View.{PlanView}
use Rattle.hack_hunt.specs.Hunts.{AreBuiltFor, HasRun, IsToldAs, IsUnfinishedAs, WereRun}
use Rattle.hack_hunt.specs.declared.hunt.Hunted.{Hunted}

module _ (aim : Aim) where
  abbrev IsFor : List Bool → Build → Type 0
  IsFor set b = IsBuildFor (choice_in aim.closures.now) (alone_in aim.closures.now) (has_all aim.closures.now) (search_of aim.closures.now) set b

  -- all that is built for a set has one run
  same_run : (set : List Bool) (a b : Build) → IsFor set a → IsFor set b → run_for aim.plain a ≡ run_for aim.plain b
  same_run set build.NoFeatures build.NoFeatures p q = refl
  same_run set build.NoFeatures build.AllFeatures p q = absurd (p (length (alone_in aim.closures.now)) q.1)
  same_run set build.NoFeatures (build.Set t) p q = let x = stands_some (choice_in aim.closures.now) (alone_in aim.closures.now) (search_of aim.closures.now) set t.items q.1 in absurd (p x.0 x.1)
  same_run set build.AllFeatures build.NoFeatures p q = absurd (q (length (alone_in aim.closures.now)) p.1)
  same_run set build.AllFeatures build.AllFeatures p q = refl
  same_run set build.AllFeatures (build.Set t) p q = absurd (q.0 p.1)
  same_run set (build.Set t) build.NoFeatures p q = let x = stands_some (choice_in aim.closures.now) (alone_in aim.closures.now) (search_of aim.closures.now) set t.items p.1 in absurd (q x.0 x.1)
  same_run set (build.Set t) build.AllFeatures p q = absurd (p.0 q.1)
  same_run set (build.Set t) (build.Set u) p q = ap Set (first_once (choice_in aim.closures.now) (alone_in aim.closures.now) (search_of aim.closures.now) set t.items u.items p.2 q.2)

  module _ (f : Finding) (made : List Made) (each : All (IsBuilt aim made) f.runs) where
    -- what is built for a set that was tried was run, and ended so
    has_run : (o : BuildOutcome) (set : List Bool) (b : Build) → o ≢ Broken → Contains f.runs (record { set = set; outcome = o }) → IsFor set b → HasRun aim made o b
    has_run o set b whole there is = elim (All-contains (IsBuilt aim made) f.runs (record { set = set; outcome = o }) each there) [
      | inl w ↦
          let fits = w.2.fits in
          let same : w.0.run ≡ run_for aim.plain b = fits.2 ∙ same_run set fits.0 b fits.1 is in
          subst (λ (run : PackageRun). Contains made (record { run = run; outcome = o })) same (subst (λ (end : BuildOutcome). Contains made (record { run = w.0.run; outcome = end })) w.2.told w.1)
      | inr broken ↦ absurd (whole broken)
    ]

    each_run : (o : BuildOutcome) (sets : List (List Bool)) (builds : List Build) → o ≢ Broken → All (λ s. Contains f.runs (record { set = s; outcome = o })) sets → AllZip IsFor sets builds → All (HasRun aim made o) builds
    each_run o [] [] whole tried zip = All-nil (HasRun aim made o)
    each_run o [] (b ∷ builds) whole tried zip = absurd zip
    each_run o (set ∷ sets) [] whole tried zip = absurd zip
    each_run o (set ∷ sets) (b ∷ builds) whole tried zip =
        All-cons (HasRun aim made o) b builds (has_run o set b whole (All-head (λ s. Contains f.runs (record { set = s; outcome = o })) set sets tried) zip.0)
        (each_run o sets builds whole (All-tail (λ s. Contains f.runs (record { set = s; outcome = o })) set sets tried) zip.1)

    told_run : (o : BuildOutcome) (sets : List (List Bool)) (builds : List Build) → o ≢ Broken → All (λ s. Contains f.runs (record { set = s; outcome = o })) sets → AreBuiltFor aim.closures.now sets builds → All (HasRun aim made o) builds
    told_run o sets builds whole tried told = All-permutation (HasRun aim made o) told.0 builds told.2 (each_run o sets told.0 whole tried told.1)

    unfinished_run : (left : Option Build) → IsUnfinishedAs aim.closures.now f left → IfSome left (HasRun aim made Failed)
    unfinished_run None h = tt
    unfinished_run (Some b) h = has_run Failed h.0 b (λ e. absurd (let z : Failed ≡ Broken = e in cc)) h.1 h.4

pub were_run : (aim : Aim) (most : Option ℕ) (f : Finding) (made : List Made) (h : Hunted) (old new : PlanView) → IsHunt aim most f made old new → IsToldAs aim f h → WereRun aim made h
were_run aim most f made h old new hunt told = record {
  conflicts = told_run aim f made hunt.built.each Failed f.conflicts h.conflicts.items (λ e. absurd (let z : Failed ≡ Broken = e in cc)) hunt.found.failed told.conflicts;
  passing = told_run aim f made hunt.built.each Passed f.passing h.passing.items (λ e. absurd (let z : Passed ≡ Broken = e in cc)) hunt.found.passed told.passing;
  unfinished = unfinished_run aim f made hunt.built.each h.unfinished told.unfinished;
}
