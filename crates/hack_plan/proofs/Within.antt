-- The runs in a plan are runs of its packages.
use Rattle.std.proofs.Common.{◌≡◌, arith, ℕ, ◌<◌, List, [], ◌∷◌, length, map, sym, subst, suc, zero, Option, Bool, true, false, IsSomeAnd, slice_index}
use Rattle.std.specs.List.{slice_get}
use Rattle.hack_versions.specs.declared.version.Version.{Version}
use Rattle.hack_plan.specs.declared.places.PlanEntry.{PlanEntry}
use Rattle.hack_plan.specs.declared.versions.PlanInput.{PlanInput}
use Rattle.hack_plan.specs.Entries.{HasRun, ArePlaces}
use Rattle.hack_plan.specs.declared.parts.PlanPackage.{PlanPackage}
use Rattle.hack_plan.specs.View.{plan_package_view}
use Rattle.hack_plan.specs.Plans.{IsRunOf, AreRunsOfPackages, counts_in}

-- a rank below the number of a package's runs
run-of : (packages : List PlanPackage) (p rank : ℕ) → rank < slice_index (counts_in packages) p → IsSomeAnd (slice_get (map plan_package_view packages) p) (λ k. rank < length k.runs)
run-of [] zero rank lt = absurd (omega arith)
run-of [] (suc p) rank lt = absurd (omega arith)
run-of (k ∷ ks) zero rank lt = lt
run-of (k ∷ ks) (suc p) rank lt = run-of ks p rank lt

-- a run that exists
run-in : (packages : List PlanPackage) (s : PlanInput) (steps : List Version) (q : PlanEntry) (whole : Bool) → HasRun whole s (counts_in packages) steps q → IsRunOf (map plan_package_view packages) q.package q.rank
run-in packages s steps q false run = subst (λ o. IsRunOf (map plan_package_view packages) o q.rank) (sym run.1) (run-of packages run.0 q.rank run.3)
run-in packages s steps q true run = subst (λ o. IsRunOf (map plan_package_view packages) o q.rank) (sym run.0) tt

-- all runs of a plan
pub places-runs : (packages : List PlanPackage) (counts : List ℕ) (s : PlanInput) (stable : Option Version) (entries : List PlanEntry) → counts ≡ counts_in packages → ArePlaces s counts stable entries → AreRunsOfPackages (map plan_package_view packages) entries
places-runs packages counts s stable entries are places =
    let known : ArePlaces s (counts_in packages) stable entries = subst (λ ns. ArePlaces s ns stable entries) are places in
    λ k d lt. run-in packages s known.0 _ s.as_cargo (known.2.sound k d lt).run
