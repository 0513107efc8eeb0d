-- The plan of the groups of a range, and the plan without a range.
use Rattle.std.proofs.Common.{◌≡◌, ◌↔◌, ℕ, zero, suc, ◌+◌, ◌<◌, List, [], ◌∷◌, length, take, arith, refl, ap, sym, ◌∙◌, subst, inl, inr, get_or, slice_get, Option, Some, None, Bool, true, false}
use Rattle.std.specs.List.{Contains}
use Rattle.std.proofs.lemmas.List.{length-take-le, get_or-take, get_or_default}
use Rattle.std.proofs.lemmas.List.Elements.{All-weaker}
use Rattle.hack_versions.specs.declared.version.Version.{Version}
use Rattle.hack_versions.specs.declared.version.VersionRange.{VersionRange}
use Rattle.hack_versions.specs.declared.group.VersionGroup.{VersionGroup}
use Rattle.hack_versions.specs.VersionOrder.{IsEarlierVersion}
use Rattle.hack_versions.specs.VersionUses.{UsesAt, IsVersionGroup, AreVersionGroups}
use Rattle.hack_plan.specs.declared.places.PlanEntry.{PlanEntry}
use Rattle.hack_plan.specs.declared.versions.PlanInput.{PlanInput}
use Rattle.hack_plan.specs.Inputs.{UsesVersion, IsVersion, slots_of}
use Rattle.hack_plan.specs.Entries.{Lists, AddsEntries, Overfills, AreTooMany, Before, IsOlder, IsAdmissible, HasRun}
use Rattle.hack_plan.specs.Parts.{InVersion, InWhole}
use Rattle.hack_plan.proofs.Joins.{Adds-then, Overfills-then}
use Rattle.hack_plan.proofs.Growth.{Contains-take_more, Contains-take_up, Contains-take_last}

older-some : (x y : Option Version) (m n : Version) → x ≡ Some m → y ≡ Some n → IsEarlierVersion m n → IsOlder x y
older-some x y m n e f l = rw (e, f) l

some-below : {X : Type 0} (xs : List X) (p : ℕ) (o : Option X) (x : X) → slice_get xs p ≡ o → o ≡ Some x → p < length xs
some-below [] p o x e f = cc
some-below (y ∷ ys) zero o x e f = omega arith
some-below (y ∷ ys) (suc p) o x e f = omega (arith, some-below ys p o x e f)

-- the entries of some groups
abbrev pub InGroups : PlanInput → List ℕ → List Version → List VersionGroup → PlanEntry → Type 0
InGroups s counts steps groups q = IsAdmissible s counts steps q × ((g : VersionGroup) × Contains groups g × (q.version ≡ Some g.version))

has-first : (xs : List ℕ) → (xs ≡ [] → ⊥) → (x : ℕ) × Contains xs x
has-first [] n = absurd (n refl)
has-first (x ∷ xs) n = (x, (0, omega arith, refl))

module _ (s : PlanInput) (counts : List ℕ) (range : VersionRange) (some : s.range ≡ Some range) (steps : List Version) (groups : List VersionGroup) (are : AreVersionGroups (UsesAt range steps s.packages.items) groups) (i : ℕ) (g : VersionGroup) (at : i < length groups) (is : get_or groups i g ≡ g) where
  it : IsVersionGroup (UsesAt range steps s.packages.items) g
  it = subst (IsVersionGroup (UsesAt range steps s.packages.items)) is (are.each i g at)

  to_uses : (v : Option Version) (p : ℕ) → v ≡ Some g.version → Contains g.packages.items p → UsesVersion (Some range) s steps v p
  to_uses v p e m = subst (λ w. UsesVersion (Some range) s steps w p) (sym e) ((it.exact p).0 m)

  from_uses : (v : Option Version) (p : ℕ) → v ≡ Some g.version → UsesVersion s.range s steps v p → Contains g.packages.items p
  from_uses v p e u = (it.exact p).1 (subst (λ w. UsesVersion (Some range) s steps w p) e (subst (λ r. UsesVersion r s steps v p) some u))

  pub in_owns : (p : ℕ) → Contains g.packages.items p → p < length s.packages.items
  in_owns p m = let u = (it.exact p).0 m in some-below s.packages.items p (slice_get s.packages.items p) u.0 refl u.1

  to_run : (b : Bool) (q : PlanEntry) → q.version ≡ Some g.version → InWhole b g.packages.items counts q → HasRun b s counts steps q
  to_run false q v w = (w.0, w.1, subst (λ r. UsesVersion r s steps q.version w.0) (sym some) (to_uses q.version w.0 v w.2), w.3)
  to_run true q v w = (w.0, w.1, subst (λ r. IsVersion r s steps q.version) (sym some) (let f = has-first g.packages.items it.used in (f.0, to_uses q.version f.0 v f.1)))

  from_run : (b : Bool) (q : PlanEntry) → q.version ≡ Some g.version → HasRun b s counts steps q → InWhole b g.packages.items counts q
  from_run false q v w = (w.0, w.1, from_uses q.version w.0 v w.2, w.3)
  from_run true q v w = (w.0, w.1)

  pub earlier : (h : VersionGroup) → Contains (take i groups) h → IsEarlierVersion h.version g.version
  earlier h m =
      let k : m.0 < i = omega (arith, m.1, length-take-le i groups (omega arith)) in
      let e : get_or groups m.0 h ≡ h = sym (get_or-take i groups m.0 h k) ∙ m.2 in
      let p : IsEarlierVersion (get_or groups m.0 h).version (get_or groups i h).version = are.rising m.0 i h k at in
      subst (λ (x : VersionGroup). IsEarlierVersion x.version g.version) e (subst (λ (x : VersionGroup). IsEarlierVersion (get_or groups m.0 h).version x.version) (get_or_default groups i h g at ∙ is) p)

  ahead : (a b : PlanEntry) → InGroups s counts steps (take i groups) a → InVersion s.as_cargo (Some g.version) (slots_of s (Some g.version)) g.packages.items counts b → Before a b
  ahead a b p q = inl (older-some a.version b.version p.1.0.version g.version p.1.2 q.0 (earlier p.1.0 p.1.1))

  right : (q : PlanEntry) → InVersion s.as_cargo (Some g.version) (slots_of s (Some g.version)) g.packages.items counts q → IsAdmissible s counts steps q
  right q p = record { run = to_run s.as_cargo q p.0 p.2; slot = subst (λ v. q.slot < slots_of s v) (sym p.0) p.1 }

  pub groups-more : (old mid new : List PlanEntry) → AddsEntries (InGroups s counts steps (take i groups)) old mid → AddsEntries (InVersion s.as_cargo (Some g.version) (slots_of s (Some g.version)) g.packages.items counts) mid new → AddsEntries (InGroups s counts steps (take (i + 1) groups)) old new
  groups-more old mid new f k =
      Adds-then (InGroups s counts steps (take i groups)) (InVersion s.as_cargo (Some g.version) (slots_of s (Some g.version)) g.packages.items counts) (InGroups s counts steps (take (i + 1) groups)) old mid new f k ahead
      (λ q r. elim (Contains-take_more groups i g r.1.0 at r.1.1) [
        | inl m ↦ inl (r.0, (r.1.0, m, r.1.2))
        | inr e ↦ let v : q.version ≡ Some g.version = r.1.2 ∙ ap (λ (x : VersionGroup). Some x.version) (sym e ∙ is) in
            inr (v, subst (λ w. q.slot < slots_of s w) v r.0.slot, from_run s.as_cargo q v r.0.run)
      ])
      (λ q p. (p.0, (p.1.0, Contains-take_up groups i g p.1.0 at p.1.1, p.1.2)))
      (λ q p. (right q p, (g, subst (Contains (take (i + 1) groups)) is (Contains-take_last groups i g at), p.0)))

  pub groups-over : (mid : List PlanEntry) → AddsEntries (InGroups s counts steps (take i groups)) [] mid → Overfills (InVersion s.as_cargo (Some g.version) (slots_of s (Some g.version)) g.packages.items counts) mid → AreTooMany (IsAdmissible s counts steps)
  groups-over mid f k = too-many _ (Overfills-then (InGroups s counts steps (take i groups)) (InVersion s.as_cargo (Some g.version) (slots_of s (Some g.version)) g.packages.items counts) (IsAdmissible s counts steps) [] mid f k ahead (λ q p. p.0) right)
    where
      too-many : (P : PlanEntry → Type 0) → Overfills P [] → AreTooMany P
      too-many P o = record { entries = o.added; increasing = o.increasing; sound = o.sound; many = omega (arith, o.many) }

pub groups-all : (s : PlanInput) (counts : List ℕ) (range : VersionRange) (steps : List Version) (groups : List VersionGroup) (new : List PlanEntry) → s.range ≡ Some range → AreVersionGroups (UsesAt range steps s.packages.items) groups → AddsEntries (InGroups s counts steps groups) [] new → Lists (IsAdmissible s counts steps) new
groups-all s counts range steps groups new some are f = subst (Lists (IsAdmissible s counts steps)) (sym f.grown) (record {
  increasing = f.lists.increasing;
  sound = All-weaker (InGroups s counts steps groups) (IsAdmissible s counts steps) (λ q p. p.0) f.added f.lists.sound;
  complete = λ q p. f.lists.complete q (p, by s.as_cargo q p.run);
})
  where
    found : (v : Option Version) (p : ℕ) → UsesVersion (Some range) s steps v p → (g : VersionGroup) × Contains groups g × (v ≡ Some g.version)
    found None p u = absurd u
    found (Some m) p u = let r = are.complete m p u in (r.0, r.1, ap Some (sym r.2))

    by : (b : Bool) (q : PlanEntry) → HasRun b s counts steps q → (g : VersionGroup) × Contains groups g × (q.version ≡ Some g.version)
    by false q w = found q.version w.0 (subst (λ r. UsesVersion r s steps q.version w.0) some w.2)
    by true q w = let u = subst (λ r. IsVersion r s steps q.version) some w.2 in found q.version u.0 u.1

module _ (s : PlanInput) (counts : List ℕ) (none : s.range ≡ None) (places : List ℕ) (exact : (p : ℕ) → Contains places p ↔ p < length s.packages.items) where
  version-of : (v : Option Version) (p : ℕ) → UsesVersion None s [] v p → (v ≡ None) × (p < length s.packages.items)
  version-of None p u = (refl, u)
  version-of (Some m) p u = absurd u

  alone-to : (b : Bool) (q : PlanEntry) → q.version ≡ None → InWhole b places counts q → HasRun b s counts [] q
  alone-to false q v w = (w.0, w.1, subst (λ r. UsesVersion r s [] q.version w.0) (sym none) (subst (λ x. UsesVersion None s [] x w.0) (sym v) ((exact w.0).0 w.2)), w.3)
  alone-to true q v w = (w.0, w.1, subst (λ r. IsVersion r s [] q.version) (sym none) v)

  alone-from : (b : Bool) (q : PlanEntry) → HasRun b s counts [] q → (q.version ≡ None) × InWhole b places counts q
  alone-from false q w = let u = version-of q.version w.0 (subst (λ r. UsesVersion r s [] q.version w.0) none w.2) in (u.0, (w.0, w.1, (exact w.0).1 u.1, w.3))
  alone-from true q w = (subst (λ r. IsVersion r s [] q.version) none w.2, (w.0, w.1))

  alone-right : (q : PlanEntry) → InVersion s.as_cargo None (slots_of s None) places counts q → IsAdmissible s counts [] q
  alone-right q p = record { run = alone-to s.as_cargo q p.0 p.2; slot = subst (λ v. q.slot < slots_of s v) (sym p.0) p.1 }

  alone-back : (q : PlanEntry) → IsAdmissible s counts [] q → InVersion s.as_cargo None (slots_of s None) places counts q
  alone-back q h = let u = alone-from s.as_cargo q h.run in (u.0, subst (λ v. q.slot < slots_of s v) u.0 h.slot, u.1)

  pub alone-all : (new : List PlanEntry) → AddsEntries (InVersion s.as_cargo None (slots_of s None) places counts) [] new → Lists (IsAdmissible s counts []) new
  alone-all new f = subst (Lists (IsAdmissible s counts [])) (sym f.grown) (record {
    increasing = f.lists.increasing;
    sound = All-weaker (InVersion s.as_cargo None (slots_of s None) places counts) (IsAdmissible s counts []) alone-right f.added f.lists.sound;
    complete = λ q p. f.lists.complete q (alone-back q p);
  })

  pub alone-over : Overfills (InVersion s.as_cargo None (slots_of s None) places counts) [] → AreTooMany (IsAdmissible s counts [])
  alone-over o = record { entries = o.added; increasing = o.increasing; sound = All-weaker (InVersion s.as_cargo None (slots_of s None) places counts) (IsAdmissible s counts []) alone-right o.added o.sound; many = omega (arith, o.many) }
