-- Inputs that agree except for where their packages' names lie in memory: what refuses one refuses
-- the other.
use Rattle.std.proofs.Common.{◌≡◌, ◌≢◌, ◌<◌, refl, sym, ap, subst, ◌∙◌, inl, inr, arith, ℕ, zero, suc, List, [], ◌∷◌, map, take, length, get_or, slice_get, string_bytes, Bool, true, false, ◌&&◌, nat_lt, Option, Some, None, option_map, if◌then◌else◌, IsSomeAnd, All, Contains}
use Rattle.std.specs.List.{AllZip}
use Rattle.std.proofs.lemmas.List.Elements.{All-weaker, AllZip-get_or, Contains-get_or, length_all_zip}
use Rattle.std.proofs.lemmas.Option.{same_Some}
use Rattle.hack_versions.specs.declared.group.PackageVersion.{PackageVersion}
use Rattle.hack_versions.specs.declared.rustup.RangeFault.{RangeFault}
use Rattle.hack_versions.specs.declared.rustup.RangeFault.TheVariants as range
use Rattle.hack_versions.specs.declared.version.Version.{Version}
use Rattle.hack_versions.specs.declared.version.VersionRange.{VersionRange}
use Rattle.hack_versions.specs.RangeSteps.{AreStepsOf, IsRangeFault}
use Rattle.hack_versions.specs.VersionUses.{UsesBy, HasOwn, IsGroupFault, IsOwnVersionFault, own_of}
use Rattle.hack_versions.specs.VersionOrder.{strip_patch}
use Rattle.hack_plan.specs.Entries.{HasRun, HasTooMany, IsAdmissible}
use Rattle.hack_plan.specs.Inputs.{HaveTwo, IsStepList, IsVersion, IsVersionsFault, UsesVersion, minor_of, owns_of, slots_of}
use Rattle.hack_plan.specs.declared.places.PlanEntry.{PlanEntry}
use Rattle.hack_plan.specs.declared.versions.PlanInput.{PlanInput}

-- two packages have the same name, in bytes, and the same own version
pub record AreAlike (m n : PackageVersion) : Type 0 where
  pub name : string_bytes m.name ≡ string_bytes n.name
  pub own : m.rust_version ≡ n.rust_version

-- two inputs have similar packages, and all else in common
pub record AgreeInputs (s t : PlanInput) : Type 0 where
  pub range : s.range ≡ t.range
  pub step : s.step ≡ t.step
  pub as_cargo : s.as_cargo ≡ t.as_cargo
  pub targets : s.targets ≡ t.targets
  pub cargo_minor : s.cargo_minor ≡ t.cargo_minor
  pub members : AllZip AreAlike s.packages.items t.packages.items

-- ---- lists, index by index

-- values that belong to the same items are similar
pub zip-alike : {A B : Type 0} (R : A → B → Type 0) (S : B → B → Type 0) → ((a : A) (x y : B) → R a x → R a y → S x y) → (keys : List A) (xs ys : List B) → AllZip R keys xs → AllZip R keys ys → AllZip S xs ys
zip-alike R S once [] [] [] h k = tt
zip-alike R S once [] [] (y ∷ ys) h k = absurd k
zip-alike R S once [] (x ∷ xs) ys h k = absurd h
zip-alike R S once (a ∷ keys) [] ys h k = absurd h
zip-alike R S once (a ∷ keys) (x ∷ xs) [] h k = absurd k
zip-alike R S once (a ∷ keys) (x ∷ xs) (y ∷ ys) h k = (once a x y h.0 k.0, zip-alike R S once keys xs ys h.1 k.1)

-- where a function agrees at each index, the mapped lists are equal
pub map-alike : {A B : Type 0} (S : A → A → Type 0) (f : A → B) → ((x y : A) → S x y → f x ≡ f y) → (xs ys : List A) → AllZip S xs ys → map f xs ≡ map f ys
map-alike S f same [] [] h = refl
map-alike S f same [] (y ∷ ys) h = absurd h
map-alike S f same (x ∷ xs) [] h = absurd h
map-alike S f same (x ∷ xs) (y ∷ ys) h = ap (λ l. f x ∷ l) (map-alike S f same xs ys h.1) ∙ ap (λ z. z ∷ map f ys) (same x y h.0)

fronts-alike : (p : ℕ) (xs ys : List PackageVersion) → AllZip AreAlike xs ys → AllZip AreAlike (take p xs) (take p ys)
fronts-alike zero xs ys same = tt
fronts-alike (suc p) [] [] same = tt
fronts-alike (suc p) [] (y ∷ ys) same = absurd same
fronts-alike (suc p) (x ∷ xs) [] same = absurd same
fronts-alike (suc p) (x ∷ xs) (y ∷ ys) same = (same.0, fronts-alike p xs ys same.1)

-- the package at the same index
place-alike : (xs ys : List PackageVersion) (p : ℕ) (m : PackageVersion) → AllZip AreAlike xs ys → slice_get xs p ≡ Some m → (n : PackageVersion) × (slice_get ys p ≡ Some n) × AreAlike m n
place-alike [] [] p m same at = absurd (cc)
place-alike [] (y ∷ ys) p m same at = absurd same
place-alike (x ∷ xs) [] p m same at = absurd same
place-alike (x ∷ xs) (y ∷ ys) zero m same at = (y, refl, subst (λ k. AreAlike k y) (same_Some x m at) same.0)
place-alike (x ∷ xs) (y ∷ ys) (suc p) m same at = place-alike xs ys p m same.1 at

-- a similar package is in the other list
other-alike : (xs ys : List PackageVersion) (m : PackageVersion) → AllZip AreAlike xs ys → Contains xs m → (n : PackageVersion) × Contains ys n × AreAlike m n
other-alike xs ys m same c =
    let inside : c.0 < length ys = omega (arith, c.1, length_all_zip AreAlike xs ys same) in
    (get_or ys c.0 m, Contains-get_or ys c.0 m inside, subst (λ k. AreAlike k (get_or ys c.0 m)) c.2 (AllZip-get_or AreAlike xs ys c.0 m m same c.1))

-- ---- why there are no versions

own-alike : (m n : PackageVersion) → AreAlike m n → own_of m ≡ own_of n
own-alike m n same = ap (option_map strip_patch) same.own

all-alike : (xs ys : List PackageVersion) → AllZip AreAlike xs ys → All HasOwn xs → All HasOwn ys
all-alike xs ys same all k d lt =
    let inside : k < length xs = omega (arith, lt, length_all_zip AreAlike xs ys same) in
    subst (λ (o : Option Version). IsSomeAnd o (λ v. v.major ≡ 1)) (AllZip-get_or AreAlike xs ys k d d same inside).own (all k d inside)

package-alike : (m n : PackageVersion) (e : RangeFault) → AreAlike m n → IsOwnVersionFault m e → IsOwnVersionFault n e
package-alike m n range.Major same h = subst (λ (o : Option Version). IsSomeAnd o (λ v. v.major ≢ 1)) same.own h
package-alike m n range.NoRustVersion same h = h
package-alike m n (range.Empty r) same h = h
package-alike m n (range.NoField named) same h = (sym same.own ∙ h.0, h.1 ∙ same.name)
package-alike m n range.SingleMsrv same h = h
package-alike m n range.Memory same h = h

group-alike : (r : VersionRange) (xs ys : List PackageVersion) (e : RangeFault) → AllZip AreAlike xs ys → IsGroupFault r xs e → IsGroupFault r ys e
group-alike r xs ys e same h =
    let m = place-alike xs ys h.1 h.2 same h.4 in
    (h.0, h.1, m.0, all-alike (take h.1 xs) (take h.1 ys) (fronts-alike h.1 xs ys same) h.3, m.1, package-alike h.2 m.0 e m.2 h.5)

two-alike : (xs ys : List PackageVersion) → AllZip AreAlike xs ys → HaveTwo xs → HaveTwo ys
two-alike xs ys same w =
    let v = w.4 in
    let a = other-alike xs ys w.1 same (w.0, w.2, w.3) in
    let b = other-alike xs ys v.1 same (v.0, v.2, v.3) in
    (a.1.0, a.0, a.1.1, a.1.2, (b.1.0, b.0, b.1.1, b.1.2, λ e. v.4 (own-alike w.1 a.0 a.2 ∙ e ∙ sym (own-alike v.1 b.0 b.2))))

-- ---- two inputs that agree

module _ (s t : PlanInput) (same : AgreeInputs s t) where
  owns-same : owns_of s ≡ owns_of t
  owns-same = map-alike AreAlike (λ (m : PackageVersion). m.rust_version) (λ m n k. k.own) s.packages.items t.packages.items same.members

  fault-within : (r : Option VersionRange) (latest : Option Version) (e : RangeFault) → IsVersionsFault r s latest e → IsVersionsFault r t latest e
  fault-within None latest e h = h
  fault-within (Some r) latest e (inl f) = inl (subst (λ l. IsRangeFault r l latest e) owns-same f)
  fault-within (Some r) latest e (inr (inl f)) = inr (inl (group-alike r s.packages.items t.packages.items e same.members f))
  fault-within (Some r) latest e (inr (inr w)) = inr (inr (sym same.as_cargo ∙ w.0, two-alike s.packages.items t.packages.items same.members w.1, w.2))

  -- a range that is refused for one input is refused for the other
  pub fault-same : (latest : Option Version) (e : RangeFault) → IsVersionsFault s.range s latest e → IsVersionsFault t.range t latest e
  fault-same latest e h = subst (λ r. IsVersionsFault r t latest e) same.range (fault-within s.range latest e h)

  -- the steps of one input are those of the other
  pub steps-same : (r : Option VersionRange) (latest : Option Version) (steps : List Version) → IsStepList r s latest steps → IsStepList r t latest steps
  steps-same None latest steps h = h
  steps-same (Some r) latest steps h = subst (λ n. AreStepsOf r n (owns_of t) latest steps) same.step (subst (λ l. AreStepsOf r s.step l latest steps) owns-same h)

  uses-same : (r : Option VersionRange) (steps : List Version) (version : Option Version) (p : ℕ) → UsesVersion r s steps version p → UsesVersion r t steps version p
  uses-same None steps None p u = omega (arith, u, length_all_zip AreAlike s.packages.items t.packages.items same.members)
  uses-same None steps (Some v) p u = u
  uses-same (Some r) steps None p u = u
  uses-same (Some r) steps (Some v) p u =
      let m = place-alike s.packages.items t.packages.items p u.0 same.members u.1 in
      (m.0, m.1, subst (λ o. UsesBy r.start_inclusive r.end_inclusive steps o v) (own-alike u.0 m.0 m.2) u.2)

  version-same : (r : Option VersionRange) (steps : List Version) (version : Option Version) → IsVersion r s steps version → IsVersion r t steps version
  version-same None steps version u = u
  version-same (Some r) steps version u = (u.0, uses-same (Some r) steps version u.0 u.1)

  run-same : (b : Bool) (counts : List ℕ) (steps : List Version) (q : PlanEntry) → HasRun b s counts steps q → HasRun b t counts steps q
  run-same false counts steps q h = (h.0, h.1, subst (λ r. UsesVersion r t steps q.version h.0) same.range (uses-same s.range steps q.version h.0 h.2), h.3)
  run-same true counts steps q h = (h.0, h.1, subst (λ r. IsVersion r t steps q.version) same.range (version-same s.range steps q.version h.2))

  slots-same : (version : Option Version) → slots_of s version ≡ slots_of t version
  slots-same version =
      ap (λ n. if nat_lt 0 n && nat_lt (minor_of s.cargo_minor version) 64 then n else 1) same.targets
      ∙ ap (λ m. if nat_lt 0 t.targets && nat_lt (minor_of m version) 64 then t.targets else 1) same.cargo_minor

  admissible-same : (counts : List ℕ) (steps : List Version) (q : PlanEntry) → IsAdmissible s counts steps q → IsAdmissible t counts steps q
  admissible-same counts steps q h = record {
    run = subst (λ b. HasRun b t counts steps q) same.as_cargo (run-same s.as_cargo counts steps q h.run);
    slot = subst (λ n. q.slot < n) (slots-same q.version) h.slot;
  }

  -- too many runs of one input are too many of the other
  pub many-same : (counts : List ℕ) (latest : Option Version) → HasTooMany s counts latest → HasTooMany t counts latest
  many-same counts latest w = (
    w.0,
    subst (λ r. IsStepList r t latest w.0) same.range (steps-same s.range latest w.0 w.1),
    record {
      entries = w.2.entries;
      increasing = w.2.increasing;
      sound = All-weaker (IsAdmissible s counts w.0) (IsAdmissible t counts w.0) (admissible-same counts w.0) w.2.entries w.2.sound;
      many = w.2.many;
    },
  )
