-- Laws of plans that grow: what was planned before stays as it is.
use Rattle.std.specs.Prelude.{ℕ, zero, suc, ◌≡◌, ◌<◌, ◌++◌, List, [], ◌∷◌, length, Option, Some, None, slice_get}
use Rattle.std.specs.List.{AllZip, slice_index_or}
use Rattle.std.proofs.Common.{refl, sym, ap, ◌∙◌, append-nil, append_assoc}
use Rattle.std.proofs.Math.ListN.{get_or-append}
use Rattle.hack_versions.specs.declared.version.Version.{Version}
use Rattle.hack_plan.specs.declared.places.PlanEntry.{PlanEntry}
use Rattle.hack_plan.specs.declared.parts.PlanVersion.{PlanVersion}
use Rattle.hack_plan.specs.Runs.{PackageRun, Plain}
use Rattle.hack_plan.specs.View.{CallView, PackageView, PlanView}
use Rattle.hack_plan.specs.Plans.{IsRunOf}
use Rattle.hack_plan.specs.Commands.{chosen_package_at, clean_command, command_of_entry, name_in, ranked_command, run_command}
use Rattle.hack_plan.specs.Growth.{EndsElsewhere, HasMoreRuns, IsGrown, next_entry, with_changed, with_one_place, with_one_run, with_run}

-- ---- lists, place by place

zip-refl : {X : Type 0} (R : X → X → Type 0) (xs : List X) → ((x : X) → R x x) → AllZip R xs xs
zip-refl R [] same = tt
zip-refl R (x ∷ xs) same = (same x, zip-refl R xs same)

zip-trans : {X : Type 0} (R : X → X → Type 0) (xs ys zs : List X) → ((x y z : X) → R x y → R y z → R x z) → AllZip R xs ys → AllZip R ys zs → AllZip R xs zs
zip-trans R [] [] zs both p q = q
zip-trans R [] (y ∷ ys) zs both p q = absurd p
zip-trans R (x ∷ xs) [] zs both p q = absurd p
zip-trans R (x ∷ xs) (y ∷ ys) [] both p q = absurd q
zip-trans R (x ∷ xs) (y ∷ ys) (z ∷ zs) both p q = (both x y z p.0 q.0, zip-trans R xs ys zs both p.1 q.1)

zip-changed : {X : Type 0} (R : X → X → Type 0) (change : X → X) (xs : List X) (place : ℕ) → ((x : X) → R x x) → ((x : X) → R x (change x)) → AllZip R xs (with_changed change xs place)
zip-changed R change [] place same changed = tt
zip-changed R change (x ∷ xs) zero same changed = (changed x, zip-refl R xs same)
zip-changed R change (x ∷ xs) (suc place) same changed = (same x, zip-changed R change xs place same changed)

-- ---- packages and versions

with-runs : PackageView → List PackageRun → PackageView
with-runs k runs = record k { runs = runs }

runs-refl : (k : PackageView) → HasMoreRuns k k
unfolding with-runs
runs-refl k = record { more = []; same = ap (with-runs k) (sym (append-nil k.runs)) }

runs-trans : (a b c : PackageView) → HasMoreRuns a b → HasMoreRuns b c → HasMoreRuns a c
unfolding with-runs
runs-trans a b c p q = record {
  more = p.more ++ q.more;
  same = q.same ∙ ap (λ (k : PackageView). record k { runs = k.runs ++ q.more }) p.same ∙ ap (with-runs a) (append_assoc a.runs p.more q.more);
}

runs-one : (run : PackageRun) (k : PackageView) → HasMoreRuns k (with_one_run run k)
runs-one run k = record { more = run ∷ []; same = refl }

pub more_runs : (run : PackageRun) (packages : List PackageView) (place : ℕ) → AllZip HasMoreRuns packages (with_changed (with_one_run run) packages place)
more_runs run packages place = zip-changed HasMoreRuns (with_one_run run) packages place runs-refl (runs-one run)

ends-trans : (a b c : PlanVersion) → EndsElsewhere a b → EndsElsewhere b c → EndsElsewhere a c
ends-trans a b c p q = q ∙ ap (λ (v : PlanVersion). record v { end = c.end }) p

-- ---- plans

pub grown_refl : (plan : PlanView) → IsGrown plan plan
grown_refl plan = record {
  call = refl;
  packages = zip-refl HasMoreRuns plan.packages runs-refl;
  versions = zip-refl EndsElsewhere plan.versions (λ v. refl);
  more = [];
  entries = sym (append-nil plan.entries);
}

pub grown_trans : (a b c : PlanView) → IsGrown a b → IsGrown b c → IsGrown a c
grown_trans a b c p q = record {
  call = q.call ∙ p.call;
  packages = zip-trans HasMoreRuns a.packages b.packages c.packages runs-trans p.packages q.packages;
  versions = zip-trans EndsElsewhere a.versions b.versions c.versions ends-trans p.versions q.versions;
  more = p.more ++ q.more;
  entries = q.entries ∙ ap (λ es. es ++ q.more) p.entries ∙ append_assoc a.entries p.more q.more;
}

pub grown_by_run : (slot place : ℕ) (run : PackageRun) (plan : PlanView) → IsGrown plan (with_run slot place run plan)
grown_by_run slot place run plan = record {
  call = refl;
  packages = more_runs run plan.packages place;
  versions = zip-changed EndsElsewhere with_one_place plan.versions _ (λ v. refl) (λ v. refl);
  more = next_entry slot place plan.packages ∷ [];
  entries = refl;
}

-- ---- what a place is made of

get-front : {X : Type 0} (xs more : List X) (place : ℕ) (x : X) → slice_get xs place ≡ Some x → slice_get (xs ++ more) place ≡ Some x
get-front [] more place x there = absurd (nothing x there)
  where
    nothing : {X : Type 0} (x : X) → None ≡ Some x → ⊥
    nothing x e = cc
get-front (y ∷ ys) more zero x there = there
get-front (y ∷ ys) more (suc place) x there = get-front ys more place x there

-- the entry of a place stays
pub same_entry : (old new : PlanView) → IsGrown old new → (place : ℕ) (q : PlanEntry) → slice_get old.entries place ≡ Some q → slice_get new.entries place ≡ Some q
same_entry old new grown place q there = ap (λ es. slice_get es place) grown.entries ∙ get-front old.entries grown.more place q there

same-package : (call : CallView) (version : Option Version) (slot rank : ℕ) (k l : PackageView) → HasMoreRuns k l → rank < length k.runs
    → run_command call version slot l (slice_index_or l.runs rank Plain) ≡ run_command call version slot k (slice_index_or k.runs rank Plain)
same-package call version slot rank k l p within =
    ap (λ (m : PackageView). run_command call version slot m (slice_index_or m.runs rank Plain)) p.same
    ∙ ap (run_command call version slot k) (get_or-append k.runs p.more Plain rank within)

same-ranked : (call : CallView) (version : Option Version) (slot rank : ℕ) (olds news : List PackageView) (o : Option ℕ) → AllZip HasMoreRuns olds news → IsRunOf olds o rank
    → ranked_command call version slot (chosen_package_at news o) rank ≡ ranked_command call version slot (chosen_package_at olds o) rank
same-ranked call version slot rank olds news None zip run = refl
same-ranked call version slot rank [] news (Some p) zip run = absurd run
same-ranked call version slot rank (k ∷ ks) [] (Some p) zip run = absurd zip
same-ranked call version slot rank (k ∷ ks) (l ∷ ls) (Some zero) zip run = same-package call version slot rank k l zip.0 run
same-ranked call version slot rank (k ∷ ks) (l ∷ ls) (Some (suc p)) zip run = same-ranked call version slot rank ks ls (Some p) zip.1 run

-- the command of a run that was there stays
pub same_command : (old new : PlanView) → IsGrown old new → (q : PlanEntry) → IsRunOf old.packages q.package q.rank → command_of_entry new q ≡ command_of_entry old q
same_command old new grown q run =
    ap (λ (call : CallView). ranked_command call q.version q.slot (chosen_package_at new.packages q.package) q.rank) grown.call
    ∙ same-ranked old.call q.version q.slot q.rank old.packages new.packages q.package grown.packages run

same-name : (olds news : List PackageView) (o : Option ℕ) → AllZip HasMoreRuns olds news → name_in (chosen_package_at news o) ≡ name_in (chosen_package_at olds o)
same-name olds news None zip = refl
same-name [] [] (Some p) zip = refl
same-name [] (l ∷ ls) (Some p) zip = absurd zip
same-name (k ∷ ks) [] (Some p) zip = absurd zip
same-name (k ∷ ks) (l ∷ ls) (Some zero) zip = ap (λ (m : PackageView). Some m.name) zip.0.same
same-name (k ∷ ks) (l ∷ ls) (Some (suc p)) zip = same-name ks ls (Some p) zip.1

-- the names of packages stay
pub same_name : (old new : PlanView) → IsGrown old new → (o : Option ℕ) → name_in (chosen_package_at new.packages o) ≡ name_in (chosen_package_at old.packages o)
same_name old new grown o = same-name old.packages new.packages o grown.packages

same-cleaning : (call : CallView) (olds news : List PackageView) (o : Option ℕ) → AllZip HasMoreRuns olds news → clean_command call (chosen_package_at news o) ≡ clean_command call (chosen_package_at olds o)
same-cleaning call olds news None zip = refl
same-cleaning call [] [] (Some p) zip = refl
same-cleaning call [] (l ∷ ls) (Some p) zip = absurd zip
same-cleaning call (k ∷ ks) [] (Some p) zip = absurd zip
same-cleaning call (k ∷ ks) (l ∷ ls) (Some zero) zip = ap (λ (m : PackageView). clean_command call (Some m)) zip.0.same
same-cleaning call (k ∷ ks) (l ∷ ls) (Some (suc p)) zip = same-cleaning call ks ls (Some p) zip.1

-- the commands that clean packages stay
pub same_cleaning : (old new : PlanView) → IsGrown old new → (o : Option ℕ) → clean_command new.call (chosen_package_at new.packages o) ≡ clean_command old.call (chosen_package_at old.packages o)
same_cleaning old new grown o =
    ap (λ (call : CallView). clean_command call (chosen_package_at new.packages o)) grown.call ∙ same-cleaning old.call old.packages new.packages o grown.packages
