-- Where there is a plan, no cause to refuse one holds.
use Rattle.std.proofs.Common.{◌≡◌, ◌⊎◌, ℕ, ◌+◌, ◌*◌, ◌<◌, ◌^◌, List, length, arith, ap, sym, ◌∙◌, subst, inl, inr, [], refl, Option, Some, None, Bool, true, false, IfSome, Result, Ok, Err, IfOk}
use Rattle.std.specs.List.{Contains}
use Rattle.std.proofs.lemmas.List.Elements.{All-contains}
use Rattle.hack_versions.specs.declared.version.Version.{Version}
use Rattle.hack_versions.specs.declared.version.MaybeVersion.{MaybeVersion}
use Rattle.hack_versions.specs.declared.version.MaybeVersion.TheVariants.{Version as Given, Msrv, Stable}
use Rattle.hack_versions.specs.declared.version.VersionRange.{VersionRange}
use Rattle.hack_versions.specs.VersionOrder.{IsAtMost, one, strip_patch}
use Rattle.hack_versions.specs.RangeSteps.{IsLowest, IsBound, AreSteps, AreStepsOf}
use Rattle.hack_versions.specs.VersionUses.{UsesBy, IsStepFor, HasStepFrom, own_of}
use Rattle.hack_versions.proofs.OrderLemmas.{at_most-both}
use Rattle.hack_plan.specs.declared.places.PlanEntry.{PlanEntry}
use Rattle.hack_plan.specs.declared.versions.PlanInput.{PlanInput}
use Rattle.hack_plan.specs.Inputs.{IsStepList, UsesVersion, IsVersion, owns_of}
use Rattle.hack_plan.specs.Entries.{IsAdmissible, HasRun, Lists, ArePlaces, HasTooMany}
use Rattle.hack_plan.proofs.Pigeon.{not-too-many}

abbrev IsOver : Version → Option Version → Type 0
IsOver v own = IfSome own (λ w. IsAtMost v w)

lowest-same : (owns : List (Option Version)) (v w : Version) → IsLowest owns v → IsLowest owns w → v ≡ w
lowest-same owns v w f g = at_most-both v w (All-contains (IsOver v) owns (Some w) f.least g.member) (All-contains (IsOver w) owns (Some v) g.least f.member)

same_some : {X : Type 0} (a b : X) → Some a ≡ Some b → a ≡ b
same_some a b e = cc

-- a bound of a range denotes one version
bound-same : (owns : List (Option Version)) (stable : Option Version) (bound : MaybeVersion) (v w : Version) → IsBound owns stable bound v → IsBound owns stable bound w → v ≡ w
bound-same owns stable (Given given) v w f g = f ∙ sym g
bound-same owns stable Msrv v w f g = f.2 ∙ ap strip_patch (lowest-same owns f.0 g.0 f.1 g.1) ∙ sym g.2
bound-same owns stable Stable v w f g = same_some v w (sym f ∙ g)

steps-back : (a b step x y : ℕ) (s t : List Version) → a ≡ b → x ≡ y → AreSteps a step x s → AreSteps b step y t → (v : Version) → Contains s v → Contains t v
steps-back a b step x y s t e f p q v c = let w = (p.exact v).0 c in (q.exact v).1 (w.0, w.1 ∙ ap (λ (n : ℕ). one (n + w.0 * step)) e, omega (arith, w.2, e, f))

-- two lists of the steps of a range have the same members
same-steps : (range : VersionRange) (step : ℕ) (owns : List (Option Version)) (stable : Option Version) (s t : List Version) → AreStepsOf range step owns stable s → AreStepsOf range step owns stable t → (v : Version) → Contains s v → Contains t v
same-steps range step owns stable s t f g =
    steps-back f.start.minor g.start.minor step f.end.minor g.end.minor s t
    (ap (λ (v : Version). v.minor) (bound-same owns stable range.start_inclusive f.start g.start f.is_start g.is_start))
    (ap (λ (v : Version). v.minor) (bound-same owns stable range.end_inclusive f.end g.end f.is_end g.is_end)) f.steps g.steps

module _ (s t : List Version) (same : (v : Version) → Contains s v → Contains t v) where
  from : (own : Option Version) (v : Version) → IsStepFor s own v → IsStepFor t own v
  from own v u = (same v u.0, u.1)

  either : (own : Option Version) (v : Version) (Q : Type 0) → IsStepFor s own v ⊎ (Q × HasStepFrom s v) → IsStepFor t own v ⊎ (Q × HasStepFrom t v)
  either own v Q (inl u) = inl (from own v u)
  either own v Q (inr u) = inr (u.0, (u.1.0, same u.1.0 u.1.1, u.1.2))

  by-same : (start end : MaybeVersion) (own : Option Version) (v : Version) → UsesBy start end s own v → UsesBy start end t own v
  by-same Msrv Msrv own v u = u
  by-same Msrv (Given w) own v u = either own v _ u
  by-same Msrv Stable own v u = either own v _ u
  by-same (Given w) end own v u = from own v u
  by-same Stable end own v u = from own v u

  uses-same : (range : Option VersionRange) (z : PlanInput) (version : Option Version) (p : ℕ) → UsesVersion range z s version p → UsesVersion range z t version p
  uses-same None z None p u = u
  uses-same None z (Some v) p u = u
  uses-same (Some range) z None p u = u
  uses-same (Some range) z (Some v) p u = (u.0, u.1, by-same range.start_inclusive range.end_inclusive (own_of u.0) v u.2)

  version-same : (range : Option VersionRange) (z : PlanInput) (version : Option Version) → IsVersion range z s version → IsVersion range z t version
  version-same None z v u = u
  version-same (Some range) z v u = (u.0, uses-same (Some range) z v u.0 u.1)

  run-same : (b : Bool) (z : PlanInput) (counts : List ℕ) (q : PlanEntry) → HasRun b z counts s q → HasRun b z counts t q
  run-same false z counts q h = (h.0, h.1, uses-same z.range z q.version h.0 h.2, h.3)
  run-same true z counts q h = (h.0, h.1, version-same z.range z q.version h.2)

  admissible-same : (z : PlanInput) (counts : List ℕ) (q : PlanEntry) → IsAdmissible z counts s q → IsAdmissible z counts t q
  admissible-same z counts q h = record { run = run-same z.as_cargo z counts q h.run; slot = h.slot }

list-same : (range : Option VersionRange) (z : PlanInput) (stable : Option Version) (s t : List Version) → IsStepList range z stable s → IsStepList range z stable t → (v : Version) → Contains s v → Contains t v
list-same None z stable s t f g v c = subst (λ xs. Contains xs v) (f ∙ sym g) c
list-same (Some range) z stable s t f g v c = same-steps range z.step (owns_of z) stable s t f g v c

-- where a plan is short enough, there is no list of too many places
pub never-too-many : (z : PlanInput) (counts : List ℕ) (stable : Option Version) (entries : List PlanEntry) → ArePlaces z counts stable entries → length entries < 2 ^ 32 → HasTooMany z counts stable → ⊥
never-too-many z counts stable entries p short w =
    not-too-many (IsAdmissible z counts p.0) (IsAdmissible z counts w.0) entries (admissible-same w.0 p.0 (list-same z.range z stable w.0 p.0 w.1 p.1) z counts) p.2 short w.2

-- the same of a plan that may not be made
pub never-if : (z : PlanInput) (counts : List ℕ) (stable : Option Version) {X E : Type 0} (r : Result X E) (entries : X → List PlanEntry) → IfOk r (λ p. ArePlaces z counts stable (entries p)) → IfOk r (λ p. length (entries p) < 2 ^ 32) → IfOk r (λ _. ¬ HasTooMany z counts stable)
never-if z counts stable (Ok p) entries places short = never-too-many z counts stable (entries p) places short
never-if z counts stable (Err e) entries places short = tt

-- without a range there are no steps
pub never-alone : (z : PlanInput) (counts : List ℕ) (stable : Option Version) {X E : Type 0} (r : Result X E) (entries : X → List PlanEntry) → None ≡ z.range → IfOk r (λ p. Lists (IsAdmissible z counts []) (entries p)) → IfOk r (λ p. length (entries p) < 2 ^ 32) → IfOk r (λ _. ¬ HasTooMany z counts stable)
never-alone z counts stable (Ok p) entries is lists short = never-too-many z counts stable (entries p) ([], subst (λ range. IsStepList range z stable []) is refl, lists) short
never-alone z counts stable (Err e) entries is lists short = tt
