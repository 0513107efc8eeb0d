-- A context is made.
use Rattle.std.proofs.Common.{◌≡◌, ◌⊎◌, inl, inr, ◌<◌, ◌≤◌, ◌+◌, ℕ, suc, Bool, List, [], ◌∷◌, ◌++◌, length, map, get_or, drop, refl, sym, ◌∙◌, ap, subst, arith, add-one, append_assoc, append-nil}
use Rattle.std.specs.Prelude.{Contains}
use Rattle.std.proofs.Math.Seq.{drop-cons}
use Rattle.std.proofs.lemmas.Bool.{cases_lt}
use Rattle.std.proofs.lemmas.List.{drop_all, get_or-map, get_or_default}
use Rattle.hack_routes.specs.FeatureMap.{feature_map}
use Rattle.hack_metadata.specs.Records.{MetadataRecord}
use Rattle.hack_metadata.specs.RecordViews.{place_at}
use Rattle.hack_metadata.specs.declared.metadata.fault.MetadataFault.{MetadataFault}
use Rattle.hack_metadata.specs.declared.metadata.fault.MetadataFault.TheVariants as faults
use Rattle.hack_metadata.specs.declared.metadata.resolve.PackageId.{PackageId}
use Rattle.hack_manifest.specs.declared.manifest.Manifest.{Manifest}
use Rattle.hack_load.specs.Candidates.{MissesNode}
use Rattle.hack_load.specs.ContextOf.{AreFeatures, IsNodeFault}
use Rattle.hack_load.specs.Features.{AreCandidates, IsNodeRefusal}
use Rattle.hack_load.specs.declared.features.Features.{Features}

-- each member has candidates
pub features-long : (m : MetadataRecord) (asked : Bool) (ids : List ℕ) (xs : List Manifest) (fs : List Features) → AreFeatures m asked ids xs fs → length fs ≡ length ids
features-long m asked [] [] [] h = refl
features-long m asked [] [] (f ∷ fs) h = absurd h
features-long m asked [] (x ∷ xs) fs h = absurd h
features-long m asked (id ∷ ids) [] fs h = absurd h
features-long m asked (id ∷ ids) (x ∷ xs) [] h = absurd h
features-long m asked (id ∷ ids) (x ∷ xs) (f ∷ fs) h = ap suc (features-long m asked ids xs fs h.1)

-- these features, followed by any for the members left, are features for all members
abbrev pub Completes : MetadataRecord → Bool → List ℕ → List Manifest → ℕ → List Features → Type 0
Completes m asked ids xs i fs = (more : List Features) → AreFeatures m asked (drop i ids) (drop i xs) more → AreFeatures m asked ids xs (fs ++ more)

pub completes-more : (m : MetadataRecord) (asked : Bool) (ids : List ℕ) (xs : List Manifest) (i id : ℕ) (x : Manifest) (f : Features) (fs now : List Features)
    → length xs ≡ length ids → i < length xs → x ≡ get_or xs i x → id ≡ get_or ids i id → AreCandidates m (feature_map x.features) id asked f → now ≡ fs ++ f ∷ []
    → Completes m asked ids xs i fs → Completes m asked ids xs (i + 1) now
completes-more m asked ids xs i id x f fs now long lt isx isid are push before = λ more h.
    let e1 = drop-cons ids i id (omega (arith, lt, long)) in
    let e2 = drop-cons xs i x lt in
    let h' : AreFeatures m asked (drop (suc i) ids) (drop (suc i) xs) more = subst (λ n. AreFeatures m asked (drop n ids) (drop n xs) more) (add-one i) h in
    let both : AreFeatures m asked (id ∷ drop (suc i) ids) (x ∷ drop (suc i) xs) (f ∷ more) = (are, h') in
    let first : AreFeatures m asked (get_or ids i id ∷ drop (suc i) ids) (get_or xs i x ∷ drop (suc i) xs) (f ∷ more) =
    subst (λ a. AreFeatures m asked (a ∷ drop (suc i) ids) (get_or xs i x ∷ drop (suc i) xs) (f ∷ more)) isid (subst (λ b. AreFeatures m asked (id ∷ drop (suc i) ids) (b ∷ drop (suc i) xs) (f ∷ more)) isx both) in
    let here : AreFeatures m asked (drop i ids) (drop i xs) (f ∷ more) =
    subst (λ a. AreFeatures m asked a (drop i xs) (f ∷ more)) (sym e1) (subst (λ b. AreFeatures m asked (get_or ids i id ∷ drop (suc i) ids) b (f ∷ more)) (sym e2) first) in
    subst (λ l. AreFeatures m asked ids xs l) (sym (ap (λ l. l ++ more) push ∙ append_assoc fs (f ∷ []) more)) (before (f ∷ more) here)

pub completes-all : (m : MetadataRecord) (asked : Bool) (ids : List ℕ) (xs : List Manifest) (i : ℕ) (fs : List Features) → length xs ≡ length ids → length xs ≤ i → Completes m asked ids xs i fs → AreFeatures m asked ids xs fs
completes-all m asked ids xs i fs long le before =
    let none : AreFeatures m asked (drop i ids) (drop i xs) [] =
    subst (λ a. AreFeatures m asked a (drop i xs) []) (sym (drop_all i ids (omega (arith, le, long)))) (subst (λ b. AreFeatures m asked [] b []) (sym (drop_all i xs le)) tt) in
    subst (λ l. AreFeatures m asked ids xs l) (append-nil fs) (before [] none)

pub misses-more : (m : MetadataRecord) (asked : Bool) (ids : List ℕ) (i id : ℕ) → i < length ids → id ≡ get_or ids i id → ¬ MissesNode m id asked → ((k d : ℕ) → k < i → ¬ MissesNode m (get_or ids k d) asked) → (k d : ℕ) → k < i + 1 → ¬ MissesNode m (get_or ids k d) asked
misses-more m asked ids i id lt is here before k d l =
    elim (cases_lt k i) [
      | inl less ↦ before k d less
      | inr ge ↦
          let same : k ≡ i = omega (arith, l, ge) in
          λ miss. here (subst (λ v. MissesNode m v asked) (ap (λ n. get_or ids n d) same ∙ get_or_default ids i d id lt ∙ sym is) miss)
    ]

-- an error of collecting candidates
pub node-fault : (m : MetadataRecord) (asked : Bool) (id : ℕ) (e : MetadataFault) → Contains m.workspace_members id → IsNodeRefusal m id asked e → (e ≡ faults.Memory) ⊎ IsNodeFault m asked e
node-fault m asked id faults.Memory c h = inl refl
node-fault m asked id (faults.Field name) c h = inr (λ eq. cc, (id, c, h))
node-fault m asked id faults.Json c h = absurd h

-- an id at a place is a member
pub id-at : (ms : List PackageId) (i : ℕ) (id : PackageId) → i < length ms → id ≡ get_or ms i id → id.index ≡ get_or (map place_at ms) i id.index
id-at ms i id lt is = ap place_at is ∙ sym (get_or-map place_at ms i id id.index lt)
