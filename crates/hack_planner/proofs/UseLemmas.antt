-- Which packages use a version: what versions with their packages say of it, and what it says of a plan.
use Rattle.std.proofs.Common.{◌≡◌, ◌↔◌, ◌⊎◌, refl, sym, ap, subst, ◌∙◌, arith, ℕ, zero, suc, ◌+◌, ◌*◌, List, [], ◌∷◌, map, inl, inr, Bool, true, false, Option, Some, None, IfSome, IsTrue, All, Contains, option_map}
use Rattle.std.specs.Prelude.{slice_get}
use Rattle.std.specs.List.{AllZip}
use Rattle.std.proofs.lemmas.List.Elements.{All-cons, All-contains, All-head, All-tail}
use Rattle.std.proofs.lemmas.Option.{same_Some}
use Rattle.hack_base.specs.Names.{Name}
use Rattle.hack_load.specs.Contexts.{ContextRecord, rust_version_at}
use Rattle.hack_metadata.specs.RecordViews.{place_at}
use Rattle.hack_metadata.specs.declared.metadata.resolve.PackageId.{PackageId}
use Rattle.hack_plan.specs.Inputs.{AreVersions, AreVersionsOf, IsStepList, UsesVersion, owns_of}
use Rattle.hack_plan.specs.View.{PackageView}
use Rattle.hack_plan.specs.declared.versions.PlanInput.{PlanInput}
use Rattle.hack_plan.specs.declared.versions.Versions.{Versions}
use Rattle.hack_versions.specs.declared.group.PackageVersion.{PackageVersion}
use Rattle.hack_versions.specs.declared.group.VersionGroup.{VersionGroup}
use Rattle.hack_versions.specs.declared.version.MaybeVersion.{MaybeVersion}
use Rattle.hack_versions.specs.declared.version.MaybeVersion.TheVariants.{Version as Given, Msrv, Stable}
use Rattle.hack_versions.specs.declared.version.Version.{Version}
use Rattle.hack_versions.specs.declared.version.VersionRange.{VersionRange}
use Rattle.hack_versions.specs.RangeSteps.{IsLowest, IsBound, AreSteps, AreStepsOf}
use Rattle.hack_versions.specs.VersionOrder.{IsAtMost, one, strip_patch}
use Rattle.hack_versions.specs.VersionUses.{HasStepFrom, IsStepFor, IsVersionGroup, UsesAt, UsesBy, own_of}
use Rattle.hack_versions.proofs.OrderLemmas.{at_most-both}
use Rattle.hack_versions.proofs.RangeLemmas.{version-same}
use Rattle.hack_planner.specs.Calls.{HasCoverage, IsChosenPackage, IsCoveredIn, IsInputOf, IsMember, IsOwn, IsPackageOf, IsUsed, UsesSome}
use Rattle.hack_planner.specs.InternalUses.{InGroups, IsCoveredAs, IsPlannedAs, IsRight, id_of}
use Rattle.hack_planner.specs.declared.uses.Chosen.{Chosen}

-- ---- the steps of a range

abbrev IsOver : Version → Option Version → Type 0
IsOver v own = IfSome own (λ w. IsAtMost v w)

lowest-same : (owns : List (Option Version)) (v w : Version) → IsLowest owns v → IsLowest owns w → v ≡ w
lowest-same owns v w f g = at_most-both v w (All-contains (IsOver v) owns (Some w) f.least g.member) (All-contains (IsOver w) owns (Some v) g.least f.member)

bound-same : (owns : List (Option Version)) (stable : Option Version) (bound : MaybeVersion) (v w : Version) → IsBound owns stable bound v → IsBound owns stable bound w → v ≡ w
bound-same owns stable (Given given) v w f g = f ∙ sym g
bound-same owns stable Msrv v w f g = f.2 ∙ ap strip_patch (lowest-same owns f.0 g.0 f.1 g.1) ∙ sym g.2
bound-same owns stable Stable v w f g = same_Some v w (sym f ∙ g)

steps-back : (a b step x y : ℕ) (s t : List Version) → a ≡ b → x ≡ y → AreSteps a step x s → AreSteps b step y t → (v : Version) → Contains s v → Contains t v
steps-back a b step x y s t e f p q v c = let w = (p.exact v).0 c in (q.exact v).1 (w.0, w.1 ∙ ap (λ (n : ℕ). one (n + w.0 * step)) e, omega (arith, w.2, e, f))

-- two lists of the steps of a range have the same members
same-steps : (range : VersionRange) (step : ℕ) (owns : List (Option Version)) (stable : Option Version) (s t : List Version) → AreStepsOf range step owns stable s → AreStepsOf range step owns stable t → (v : Version) → Contains s v → Contains t v
same-steps range step owns stable s t f g =
    steps-back f.start.minor g.start.minor step f.end.minor g.end.minor s t
    (ap (λ (v : Version). v.minor) (bound-same owns stable range.start_inclusive f.start g.start f.is_start g.is_start))
    (ap (λ (v : Version). v.minor) (bound-same owns stable range.end_inclusive f.end g.end f.is_end g.is_end)) f.steps g.steps

-- so a package uses the same versions of both
module _ (s t : List Version) (same : (v : Version) → Contains s v → Contains t v) where
  from : (own : Option Version) (v : Version) → IsStepFor s own v → IsStepFor t own v
  from own v u = (same v u.0, u.1)

  either : (own : Option Version) (v : Version) (Q : Type 0) → IsStepFor s own v ⊎ (Q × HasStepFrom s v) → IsStepFor t own v ⊎ (Q × HasStepFrom t v)
  either own v Q (inl u) = inl (from own v u)
  either own v Q (inr u) = inr (u.0, (u.1.0, same u.1.0 u.1.1, u.1.2))

  by-same : (start end : MaybeVersion) (own : Option Version) (v : Version) → UsesBy start end s own v → UsesBy start end t own v
  by-same Msrv Msrv own v u = u
  by-same Msrv (Given w) own v u = either own v _ u
  by-same Msrv Stable own v u = either own v _ u
  by-same (Given w) end own v u = from own v u
  by-same Stable end own v u = from own v u

-- ---- own versions

-- a text is read as one own version
pub own-once : (range : Option VersionRange) (text : Option Name) (v w : Option Version) → IsOwn range text v → IsOwn range text w → v ≡ w
own-once None text v w h k = h ∙ sym k
own-once (Some range) None v w h k = h ∙ sym k
own-once (Some range) (Some text) None w h k = absurd h
own-once (Some range) (Some text) (Some v) None h k = absurd k
own-once (Some range) (Some text) (Some v) (Some w) h k = ap Some (version-same text v w h k)

-- ---- the packages of versions

-- what stands beside an element of the first list
pub zip-at : {A B : Type 0} (R : A → B → Type 0) (xs : List A) (ys : List B) (k : ℕ) (x : A) → AllZip R xs ys → slice_get xs k ≡ Some x → (y : B) × (slice_get ys k ≡ Some y) × R x y
zip-at R [] ys k x h at = absurd (cc)
zip-at R (z ∷ xs) [] k x h at = absurd h
zip-at R (z ∷ xs) (y ∷ ys) zero x h at = (y, refl, subst (λ w. R w y) (same_Some z x at) h.0)
zip-at R (z ∷ xs) (y ∷ ys) (suc k) x h at = zip-at R xs ys k x h.1 at

uses-by : (r : Option VersionRange) (s : PlanInput) (steps : List Version) (version : Option Version) (p : ℕ) (m : PackageVersion) (text : Option Name) → slice_get s.packages.items p ≡ Some m → IsOwn r text m.rust_version
    → UsesVersion r s steps version p → UsesSome r steps text
uses-by None s steps version p m text at own u = tt
uses-by (Some range) s steps None p m text at own u = absurd u
uses-by (Some range) s steps (Some v) p m text at own u =
    (m.rust_version, v, own, subst (λ (n : PackageVersion). UsesBy range.start_inclusive range.end_inclusive steps (own_of n) v) (same_Some u.0 m (sym u.1 ∙ at)) u.2)

-- a package at a place that uses a version is used
pub used-at : (cx : ContextRecord) (ids : List ℕ) (s : PlanInput) (latest : Option Version) (steps : List Version) (version : Option Version) (p id : ℕ) → IsInputOf cx ids s → slice_get ids p ≡ Some id → IsStepList s.range s latest steps
    → UsesVersion s.range s steps version p → IsUsed cx s latest id
used-at cx ids s latest steps version p id of_call at on u =
    let m = zip-at (IsMember cx) ids s.packages.items p id of_call.members at in
    (steps, on, uses-by s.range s steps version p m.0 (rust_version_at cx id) m.1 (subst (λ r. IsOwn r (rust_version_at cx id) m.0.rust_version) (sym of_call.range) m.2.own) u)

in-groups : (r : Option VersionRange) (s : PlanInput) (latest : Option Version) (groups : List VersionGroup) (p : ℕ) (m : PackageVersion) (text : Option Name) → AreVersions r s latest groups → slice_get s.packages.items p ≡ Some m → IsOwn r text m.rust_version
    → InGroups r groups p ↔ ((steps : List Version) × IsStepList r s latest steps × UsesSome r steps text)
in-groups None s latest groups p m text are at own = (λ _. ([], refl, tt), λ _. tt)
in-groups (Some range) s latest groups p m text are at own = (
  (λ found.
      let group = All-contains (IsVersionGroup (UsesAt range are.0 s.packages.items)) groups found.0 are.2.each found.1 in
      (are.0, are.1, uses-by (Some range) s are.0 (Some found.0.version) p m text at own ((group.exact p).0 found.2))),
  (λ used.
      let v = used.2.1 in
      let own_is = own-once (Some range) text used.2.0 m.rust_version used.2.2 own in
      let uses = by-same used.0 are.0 (same-steps range s.step (owns_of s) latest used.0 are.0 used.1 are.1) range.start_inclusive range.end_inclusive (own_of m) v
      (subst (λ o. UsesBy range.start_inclusive range.end_inclusive used.0 (option_map strip_patch o) v) own_is used.2.3) in
      let at_v : UsesAt range are.0 s.packages.items v p = (m, at, uses) in
      let g = are.2.complete v p at_v in
      let group = All-contains (IsVersionGroup (UsesAt range are.0 s.packages.items)) groups g.0 are.2.each g.1 in
      (g.0, g.1, (group.exact p).1 (subst (λ w. UsesAt range are.0 s.packages.items w p) (sym g.2) at_v))),
)

-- a package is used just where one of the versions has it
pub used-in : (cx : ContextRecord) (ids : List ℕ) (s : PlanInput) (latest : Option Version) (groups : List VersionGroup) (p id : ℕ) → IsInputOf cx ids s → slice_get ids p ≡ Some id → AreVersions s.range s latest groups → InGroups s.range groups p ↔ IsUsed cx s latest id
used-in cx ids s latest groups p id of_call at are =
    let m = zip-at (IsMember cx) ids s.packages.items p id of_call.members at in
    in-groups s.range s latest groups p m.0 (rust_version_at cx id) are m.1 (subst (λ r. IsOwn r (rust_version_at cx id) m.0.rust_version) (sym of_call.range) m.2.own)

-- so it is said rightly of one package more
pub right-more : (cx : ContextRecord) (ids : List ℕ) (s : PlanInput) (versions : Versions) (p : ℕ) (one : Chosen) → IsInputOf cx ids s → slice_get ids p ≡ Some (id_of one) → AreVersionsOf s versions → IsTrue one.is_used ↔ InGroups s.range versions.groups.items p
    → IsRight cx s versions.stable one
right-more cx ids s versions p one of_call at are told =
    let same = used-in cx ids s versions.stable versions.groups.items p (id_of one) of_call at are in
    (λ t. same.0 (told.0 t), λ u. told.1 (same.1 u))

-- ---- packages in a plan

pub not-true : (b : Bool) → ¬ IsTrue b → b ≡ false
not-true true none = absurd (none refl)
not-true false none = refl

-- a chosen package that is used where another says so
pub package-moved : (cx : ContextRecord) (P Q : Type 0) (id : ℕ) (k : PackageView) → (P → Q) → (Q → P) → IsChosenPackage cx P id k → IsChosenPackage cx Q id k
package-moved cx P Q id k to from h = record {
  pkg = h.pkg;
  features = h.features;
  known = h.known;
  loaded = h.loaded;
  name = h.name;
  path = h.path;
  given = h.given;
  candidates = h.candidates;
  runs = λ q. h.runs (from q);
  unused = λ none. h.unused (λ p. none (to p));
}

coverage-moved : (cx : ContextRecord) (P Q : Type 0) (id : ℕ) (k : PackageView) → (P → Q) → (Q → P) → HasCoverage cx P id k → HasCoverage cx Q id k
coverage-moved cx P Q id k to from h = record {
  pkg = h.pkg;
  features = h.features;
  known = h.known;
  loaded = h.loaded;
  covered = λ q. h.covered (from q);
  settings = λ q. h.settings (from q);
  unused = λ none. h.unused (λ p. none (to p));
}

zip-ids : {B : Type 0} (P : Chosen → Type 0) (R : Chosen → B → Type 0) (S : ℕ → B → Type 0) → ((one : Chosen) (y : B) → P one → R one y → S (id_of one) y) → (xs : List Chosen) (ys : List B) → All P xs → AllZip R xs ys → AllZip S (map id_of xs) ys
zip-ids P R S f [] [] all h = tt
zip-ids P R S f [] (y ∷ ys) all h = absurd h
zip-ids P R S f (x ∷ xs) [] all h = absurd h
zip-ids P R S f (x ∷ xs) (y ∷ ys) all h = (f x y (All-head P x xs all) h.0, zip-ids P R S f xs ys (All-tail P x xs all) h.1)

first-same : {X : Type 0} (x y : X) (xs ys : List X) → x ∷ xs ≡ y ∷ ys → x ≡ y
first-same x y xs ys e = cc

rest-same : {X : Type 0} (x y : X) (xs ys : List X) → x ∷ xs ≡ y ∷ ys → xs ≡ ys
rest-same x y xs ys e = cc

-- what holds of the ids holds of the chosen packages
pub all-chosen : (P : ℕ → Type 0) (chosen : List Chosen) (ids : List PackageId) → map id_of chosen ≡ map place_at ids → All (λ (id : PackageId). P id.index) ids → All (λ (one : Chosen). P one.id.index) chosen
all-chosen P [] ids e all = λ k d lt. absurd (omega (arith, lt))
all-chosen P (x ∷ xs) [] e all = absurd (cc)
all-chosen P (x ∷ xs) (y ∷ ys) e all =
    All-cons (λ (one : Chosen). P one.id.index) x xs
    (subst P (sym (first-same x.id.index y.index (map id_of xs) (map place_at ys) e)) (All-head (λ (id : PackageId). P id.index) y ys all))
    (all-chosen P xs ys (rest-same x.id.index y.index (map id_of xs) (map place_at ys) e) (All-tail (λ (id : PackageId). P id.index) y ys all))

-- where it is said rightly which of the chosen packages are used, the packages of a plan are those of its input
pub packages-of : (cx : ContextRecord) (s : PlanInput) (latest : Option Version) (chosen : List Chosen) (packages : List PackageView) → All (IsRight cx s latest) chosen → AllZip (IsPlannedAs cx) chosen packages → AllZip (IsPackageOf cx s latest) (map id_of chosen) packages
packages-of cx s latest = zip-ids (IsRight cx s latest) (IsPlannedAs cx) (IsPackageOf cx s latest) (λ one k right h. package-moved cx (IsTrue one.is_used) (IsUsed cx s latest (id_of one)) (id_of one) k right.0 right.1 h)

-- and so is their coverage
pub coverage-of : (cx : ContextRecord) (s : PlanInput) (latest : Option Version) (chosen : List Chosen) (packages : List PackageView) → All (IsRight cx s latest) chosen → AllZip (IsCoveredAs cx) chosen packages → AllZip (IsCoveredIn cx s latest) (map id_of chosen) packages
coverage-of cx s latest = zip-ids (IsRight cx s latest) (IsCoveredAs cx) (IsCoveredIn cx s latest) (λ one k right h. coverage-moved cx (IsTrue one.is_used) (IsUsed cx s latest (id_of one)) (id_of one) k right.0 right.1 h)
