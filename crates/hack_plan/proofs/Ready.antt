-- Versions with their preparations, one after another.
use Rattle.std.proofs.Common.{◌≡◌, arith, ℕ, ◌+◌, ◌<◌, List, [], ◌∷◌, ◌++◌, length, take, get_or, map, refl, ap, sym, subst, suc, zero, ◌∙◌, Some, Bool, IsTrue, true, ◌↔◌}
use Rattle.std.specs.List.{filter_map, slice_get, cons_option}
use Rattle.std.specs.Option.{unwrap_or}
use Rattle.std.proofs.lemmas.List.{take_more, map-append, length-map, length-take-le}
use Rattle.hack_versions.specs.declared.version.Version.{Version}
use Rattle.hack_plan.specs.declared.places.Span.{Span}
use Rattle.hack_plan.specs.declared.parts.PlanVersion.{PlanVersion}
use Rattle.hack_plan.specs.Prepared.{span_of, preparations_of, HasPreparations, ArePrepared}
use Rattle.hack_plan.specs.Internal.{AreFlags, version_at}

-- each version so far has its preparations
abbrev pub AreReady : Bool → Bool → List Version → List PlanVersion → Type 0
AreReady locked cleans numbers versions = (place : ℕ) (v : PlanVersion) → slice_get versions place ≡ Some v → HasPreparations locked cleans numbers place v

-- an element of a list to which one was appended is one of the list's, or that one
pub cases-push : {X : Type 0} (P : ℕ → X → Type 0) (xs : List X) (x : X) → ((k : ℕ) (y : X) → slice_get xs k ≡ Some y → P k y) → P (length xs) x → (k : ℕ) (y : X) → slice_get (xs ++ x ∷ []) k ≡ Some y → P k y
cases-push P [] x all last zero y e = subst (P 0) (some-is x y e) last
  where
    some-is : {X : Type 0} (a b : X) → Some a ≡ Some b → a ≡ b
    some-is a b e = ap (λ o. unwrap_or o a) e
cases-push P [] x all last (suc k) y e = absurd (cc)
cases-push P (z ∷ xs) x all last zero y e = all zero y e
cases-push P (z ∷ xs) x all last (suc k) y e = cases-push (λ n. P (suc n)) xs x (λ n. all (suc n)) last k y e

-- one version more
pub ready-more : (locked cleans : Bool) (numbers : List Version) (flags : List Bool) (versions : List PlanVersion) (v : PlanVersion) (place : ℕ) (remakes : Bool) → AreFlags locked numbers flags → IsTrue remakes ↔ (slice_get flags place ≡ Some true) → length versions ≡ place
    → v.preparations.items ≡ preparations_of v.version place remakes cleans → AreReady locked cleans numbers versions → AreReady locked cleans numbers (versions ++ v ∷ [])
ready-more locked cleans numbers flags versions v place remakes are set here made before =
    cases-push (HasPreparations locked cleans numbers) versions v before
    (subst (λ k. HasPreparations locked cleans numbers k v) (sym here) (record { remakes = remakes; exact = ((λ t. (are place).0 (set.0 t)), (λ r. set.1 ((are place).1 r))); made = made }))

-- there are as many versions as spans so far
pub as-many : (spans : List Span) (versions : List PlanVersion) (i : ℕ) → i < length spans → map span_of versions ≡ take i spans → length versions ≡ i
as-many spans versions i lt are = sym (length-map versions span_of) ∙ ap length are ∙ length-take-le i spans (omega arith)

-- the span of one version more
pub spans-more : (spans : List Span) (versions : List PlanVersion) (v : PlanVersion) (i : ℕ) (d : Span) → i < length spans → span_of v ≡ get_or spans i d → map span_of versions ≡ take i spans → map span_of (versions ++ v ∷ []) ≡ take (i + 1) spans
spans-more spans versions v i d lt is are =
    map-append span_of versions (v ∷ []) ∙ ap (λ l. l ++ span_of v ∷ []) are ∙ ap (λ s. take i spans ++ s ∷ []) is ∙ sym (take_more spans i d lt)

-- the versions' own numbers are those of the spans
pub numbers-same : (versions : List PlanVersion) → filter_map version_at (map span_of versions) ≡ filter_map (λ (v : PlanVersion). v.version) versions
numbers-same [] = refl
numbers-same (v ∷ versions) = ap (cons_option v.version) (numbers-same versions)

-- the versions at the end
pub prepared-end : (locked cleans : Bool) (spans : List Span) (versions : List PlanVersion) → map span_of versions ≡ spans → AreReady locked cleans (filter_map version_at spans) versions → ArePrepared locked cleans versions
prepared-end locked cleans spans versions are ready = subst (λ ns. AreReady locked cleans ns versions) (ap (filter_map version_at) (sym are) ∙ numbers-same versions) ready
