-- The parts of a plan that grows.
use Rattle.std.proofs.Common.{◌≡◌, ◌<◌, ◌+◌, ◌-◌, ◌++◌, ℕ, zero, suc, List, [], ◌∷◌, length, map, get_or, set, arith, refl, ap, sym, subst, ◌∙◌, length-append, Option, Some, None, Result, Ok, Err, IsOk, OnOk, IsSomeAnd, slice_get}
use Rattle.std.specs.List.{AllZip}
use Rattle.std.proofs.lemmas.Bool.{false≢true}
use Rattle.std.proofs.lemmas.List.Elements.{All-push}
use Rattle.hack_plan.specs.declared.parts.PlanVersion.{PlanVersion}
use Rattle.hack_plan.specs.declared.parts.PlanPackage.{PlanPackage}
use Rattle.hack_plan.specs.declared.places.PlanEntry.{PlanEntry}
use Rattle.hack_plan.specs.declared.runs.Runs.{Runs}
use Rattle.hack_plan.specs.Runs.{PackageRun}
use Rattle.hack_plan.specs.RunsView.{runs_in}
use Rattle.hack_plan.specs.Spans.{AreTiled}
use Rattle.hack_plan.specs.Prepared.{span_of}
use Rattle.hack_plan.specs.View.{PackageView, plan_package_view}
use Rattle.hack_plan.specs.Plans.{IsRunOf, AreRunsOfPackages}
use Rattle.hack_plan.specs.Growth.{HasMoreRuns, count_at, next_entry, with_changed, with_one_place, with_one_run}
use Rattle.hack_plan.specs.GrowthLaws.{more_runs}
use Rattle.hack_plan.specs.InternalRuns.{with_end}

-- an element that is replaced by what it is changed to
pub changed-set : {X Y : Type 0} (f : X → Y) (change : Y → Y) (xs : List X) (place : ℕ) (y d : X) → place < length xs → f y ≡ change (f (get_or xs place d)) → map f (set xs place y) ≡ with_changed change (map f xs) place
changed-set f change [] place y d lt e = absurd (omega arith)
changed-set f change (x ∷ xs) zero y d lt e = ap (λ z. z ∷ map f xs) e
changed-set f change (x ∷ xs) (suc place) y d lt e = ap (λ zs. f x ∷ zs) (changed-set f change xs place y d (omega arith) e)

-- ---- runs

run-stays : (olds news : List PackageView) (o : Option ℕ) (rank : ℕ) → AllZip HasMoreRuns olds news → IsRunOf olds o rank → IsRunOf news o rank
run-stays olds news None rank zip run = tt
run-stays [] news (Some p) rank zip run = absurd run
run-stays (k ∷ ks) [] (Some p) rank zip run = absurd zip
run-stays (k ∷ ks) (l ∷ ls) (Some zero) rank zip run = subst (λ (m : PackageView). rank < length m.runs) (sym zip.0.same) (omega (arith, run, length-append k.runs zip.0.more))
run-stays (k ∷ ks) (l ∷ ls) (Some (suc p)) rank zip run = run-stays ks ls (Some p) rank zip.1 run

next-run : (run : PackageRun) (packages : List PackageView) (place : ℕ) → place < length packages → IsRunOf (with_changed (with_one_run run) packages place) (Some place) (count_at packages place)
next-run run [] place lt = absurd (omega arith)
next-run run (k ∷ ks) zero lt = omega (arith, length-append k.runs (run ∷ []))
next-run run (k ∷ ks) (suc place) lt = next-run run ks place (omega arith)

-- each place's run is still one of its package's
pub runs-grown : (run : PackageRun) (slot place : ℕ) (packages : List PackageView) (entries : List PlanEntry) → place < length packages → AreRunsOfPackages packages entries
    → AreRunsOfPackages (with_changed (with_one_run run) packages place) (entries ++ next_entry slot place packages ∷ [])
runs-grown run slot place packages entries lt runs =
    let news = with_changed (with_one_run run) packages place in
    All-push (λ q. IsRunOf news q.package q.rank) entries (next_entry slot place packages)
    (λ k d within. run-stays packages news _ _ (more_runs run packages place) (runs k d within))
    (next-run run packages place lt)

-- ---- versions

tiled-at : (from place total : ℕ) (versions : List PlanVersion) → place + 1 ≡ length versions → AreTiled from (map span_of versions) total → AreTiled from (map span_of (with_changed with_one_place versions place)) (total + 1)
tiled-at from place total [] last tiled = absurd (omega arith)
tiled-at from zero total (v ∷ []) last tiled = (tiled.0, omega (arith, tiled.1), omega (arith, tiled.2))
tiled-at from (suc place) total (v ∷ []) last tiled = absurd (omega arith)
tiled-at from zero total (v ∷ w ∷ vs) last tiled = absurd (omega arith)
tiled-at from (suc place) total (v ∷ w ∷ vs) last tiled = (tiled.0, tiled.1, tiled-at v.end place total (w ∷ vs) (omega arith) tiled.2)

-- the places of the versions still go to the last one
pub tiled-grown : (total : ℕ) (versions : List PlanVersion) → 0 < length versions → AreTiled 0 (map span_of versions) total → AreTiled 0 (map span_of (with_changed with_one_place versions (length versions - 1))) (total + 1)
tiled-grown total versions some tiled = tiled-at 0 (length versions - 1) total versions (omega arith) tiled

end-at : (from place total : ℕ) (versions : List PlanVersion) → place + 1 ≡ length versions → AreTiled from (map span_of versions) total → with_changed (with_end (total + 1)) versions place ≡ with_changed with_one_place versions place
end-at from place total [] last tiled = absurd (omega arith)
end-at from zero total (v ∷ []) last tiled = ap (λ (n : ℕ). (record v { end = n + 1 }) ∷ []) (sym tiled.2)
end-at from (suc place) total (v ∷ []) last tiled = absurd (omega arith)
end-at from zero total (v ∷ w ∷ vs) last tiled = absurd (omega arith)
end-at from (suc place) total (v ∷ w ∷ vs) last tiled = ap (λ ws. v ∷ ws) (end-at v.end place total (w ∷ vs) (omega arith) tiled.2)

-- the last version ends at the last place, so one place later is one behind that
pub end-grown : (total : ℕ) (versions : List PlanVersion) → 0 < length versions → AreTiled 0 (map span_of versions) total → with_changed (with_end (total + 1)) versions (length versions - 1) ≡ with_changed with_one_place versions (length versions - 1)
end-grown total versions some tiled = end-at 0 (length versions - 1) total versions (omega arith) tiled

-- ---- packages and versions at an index

-- an element that is replaced by what it is changed to
pub set-changed : {X : Type 0} (change : X → X) (xs : List X) (place other : ℕ) (y d : X) → place < length xs → place ≡ other → y ≡ change (get_or xs place d) → set xs place y ≡ with_changed change xs other
set-changed change xs place other y d lt same e = subst (λ (n : ℕ). set xs place y ≡ with_changed change xs n) same (go xs place lt e)
  where
    go : (xs : List _) (place : ℕ) → place < length xs → y ≡ change (get_or xs place d) → set xs place y ≡ with_changed change xs place
    go [] place lt e = absurd (omega arith)
    go (x ∷ xs) zero lt e = ap (λ z. z ∷ xs) e
    go (x ∷ xs) (suc place) lt e = ap (λ zs. x ∷ zs) (go xs place (omega arith) e)

pub get-within : {X : Type 0} (xs : List X) (place : ℕ) (P : X → Type 0) → IsSomeAnd (slice_get xs place) P → place < length xs
get-within [] place P there = absurd there
get-within (x ∷ xs) zero P there = omega arith
get-within (x ∷ xs) (suc place) P there = omega (arith, get-within xs place P there)

pub get-at : {X : Type 0} (xs : List X) (place : ℕ) (d : X) (P : X → Type 0) → IsSomeAnd (slice_get xs place) P → P (get_or xs place d)
get-at [] place d P there = absurd there
get-at (x ∷ xs) zero d P there = there
get-at (x ∷ xs) (suc place) d P there = get-at xs place d P there

pub get-set : {X : Type 0} (xs : List X) (place : ℕ) (y : X) (P : X → Type 0) → place < length xs → P y → IsSomeAnd (slice_get (set xs place y) place) P
get-set [] place y P lt p = absurd (omega arith)
get-set (x ∷ xs) zero y P lt p = p
get-set (x ∷ xs) (suc place) y P lt p = get-set xs place y P (omega arith) p

-- how many runs the package at an index has
pub count-is : (packages : List PlanPackage) (place : ℕ) (d : PlanPackage) → place < length packages → length (runs_in (get_or packages place d).runs) ≡ count_at (map plan_package_view packages) place
count-is [] place d lt = absurd (omega arith)
count-is (k ∷ ks) zero d lt = refl
count-is (k ∷ ks) (suc place) d lt = count-is ks place d (omega arith)

-- a package with other runs is the same but for these
with-runs : PackageView → List PackageRun → PackageView
with-runs k runs = record k { runs = runs }

pub package-with : (k l : PlanPackage) (runs : Runs) (more : List PackageRun) → k ≡ l → runs_in runs ≡ runs_in k.runs ++ more
    → plan_package_view (record k { runs = runs }) ≡ record (plan_package_view l) { runs = (plan_package_view l).runs ++ more }
unfolding with-runs
package-with k l runs more e f = ap (with-runs (plan_package_view k)) f ∙ ap (λ (m : PlanPackage). record (plan_package_view m) { runs = (plan_package_view m).runs ++ more }) e

pub package-same : (k l : PlanPackage) (runs : Runs) → k ≡ l → runs_in runs ≡ runs_in k.runs → plan_package_view (record k { runs = runs }) ≡ plan_package_view l
unfolding with-runs
package-same k l runs e f = ap (with-runs (plan_package_view k)) f ∙ ap plan_package_view e

pub value-ok : {T E : Type 0} (P : Type 0) (r : Result T E) → IsOk r → OnOk r P → P
value-ok P (Ok x) is p = p
value-ok P (Err e) is p = absurd (false≢true is)
