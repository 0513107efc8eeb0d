-- What a call determines: which packages are chosen, and the name, the own version and the runs of
-- each.
use Rattle.std.proofs.Common.{◌≡◌, ◌↔◌, refl, sym, ap, subst, ◌∙◌, inl, inr, ℕ, List, [], ◌∷◌, map, filter, length, not, Bool, true, false, Option, None, IsTrue, All, Contains, string_bytes, arith}
use Rattle.std.specs.Prelude.{◌||◌}
use Rattle.std.specs.List.{AllZip}
use Rattle.std.proofs.lemmas.Bool.{cases_lt}
use Rattle.std.proofs.lemmas.List.Elements.{All-contains}
use Rattle.std.proofs.lemmas.Option.{same_Some}
use Rattle.std.specs.Bool.{MatchBool}
use Rattle.hack_load.specs.declared.features.Features.{Features}
use Rattle.hack_words.specs.declared.cli.args.Args.{Args}
use Rattle.hack_base.specs.Names.{Name, names_of}
use Rattle.hack_features.specs.Rules.{IsListed}
use Rattle.hack_sets.specs.Sets.{IsBefore, IsListing, Pairwise}
use Rattle.hack_sets.proofs.OrderLemmas.{before_trans}
use Rattle.hack_base.proofs.Members.{Contains-cons_cases, Contains-head, Contains-tail, Contains-nil}
use Rattle.hack_load.specs.Contexts.{ContextRecord, rust_version_at}
use Rattle.hack_metadata.specs.Records.{PackageRecord}
use Rattle.hack_planner.specs.Candidates.{candidates}
use Rattle.hack_planner.specs.ContextMembers.{AreChosen, current_name, members_in}
use Rattle.hack_planner.specs.Kinds.{ArePowersets, AreRuns, AreSetRuns, AreSets, package_choice, options_of}
use Rattle.hack_planner.specs.Members.{Collects, ends, taken, left, IsAbout, IsMatched, IsPackageList, SelectsMembers, Member, is_skipped, names_some}
use Rattle.hack_plan.specs.Runs.{PackageRun, Plain, runs_from}
use Rattle.hack_plan.specs.declared.versions.PlanInput.{PlanInput}
use Rattle.hack_plan.specs.View.{PackageView}
use Rattle.hack_versions.specs.declared.group.PackageVersion.{PackageVersion}
use Rattle.hack_versions.specs.declared.version.Version.{Version}
use Rattle.hack_plan.specs.Inputs.{IsStepList}
use Rattle.hack_planner.specs.Calls.{IsMember, IsInputOf, IsPackageOf, IsUsed, UsesSome, rules_at}
use Rattle.hack_planner.specs.CallPlan.{HaveNoStrength, run_counts}
use Rattle.hack_planner.specs.PackageRules.{PackageRulesRecord}
use Rattle.hack_planner.proofs.InputLemmas.{AgreeInputs, AreAlike, map-alike, steps-same, zip-alike}
use Rattle.hack_planner.proofs.PlanLemmas.{zip-weaker}
use Rattle.hack_planner.proofs.UseLemmas.{own-once, package-moved}

-- ---- the chosen packages

-- collecting from one list gives one result
collects-once : {X Y : Type 0} (P : X → Type 0) (f : X → Y) (xs : List X) (ys zs : List Y) → Collects P f xs ys → Collects P f xs zs → ys ≡ zs
collects-once P f xs ys zs ends ends = refl
collects-once P f (x ∷ xs) ys zs (taken {ys = before} h c) (taken {ys = after} k d) = ap (λ l. f x ∷ l) (collects-once P f xs before after c d)
collects-once P f (x ∷ xs) ys zs (taken h c) (left k d) = absurd (k h)
collects-once P f (x ∷ xs) ys zs (left h c) (taken k d) = absurd (h k)
collects-once P f (x ∷ xs) ys zs (left h c) (left k d) = collects-once P f xs ys zs c d

about-once : (named : Bool) (args : Args) (current : Option Name) (members xs ys : List Member) → IsAbout named args current members xs → IsAbout named args current members ys → xs ≡ ys
about-once true args current members xs ys h k = collects-once (IsMatched (names_of args.«package».items)) (λ m. m) members xs ys h k
about-once false args current members xs ys h k = h ∙ sym k

listed-once : (args : Args) (current : Option Name) (members : List Member) (places others : List ℕ) → IsPackageList args current members places → IsPackageList args current members others → places ≡ others
listed-once args current members places others h k =
    let about : h.left.about ≡ k.left.about = about-once (names_some args) args current members h.left.about k.left.about h.left.is_about k.left.is_about in
    let remain = subst (λ l. SelectsMembers (λ m. ¬ IsMatched (names_of args.exclude.items) m) l h.remaining) about h.left.remain in
    let remaining : h.remaining ≡ k.remaining = collects-once (λ m. ¬ IsMatched (names_of args.exclude.items) m) (λ m. m) k.left.about h.remaining k.remaining remain k.left.remain in
    h.chosen ∙ ap (λ l. map (λ (m : Member). m.place) (filter (λ m. not (is_skipped args m)) l)) remaining ∙ sym k.chosen

-- two choices of one call have the same ids
pub chosen-once : (cx : ContextRecord) (ids others : List ℕ) → AreChosen cx ids → AreChosen cx others → ids ≡ others
chosen-once cx ids others h k = listed-once cx.args (current_name cx) (members_in cx) ids others h k

-- ---- their own versions

member-once : (cx : ContextRecord) (id : ℕ) (m n : PackageVersion) → IsMember cx id m → IsMember cx id n → AreAlike m n
member-once cx id m n h k = record {
  name = same_Some (string_bytes m.name) (string_bytes n.name) (sym h.name ∙ k.name);
  own = own-once cx.args.version_range (rust_version_at cx id) m.rust_version n.rust_version h.own k.own;
}

test-once : (a b : Bool) (P : Type 0) → (IsTrue a ↔ P) → (IsTrue b ↔ P) → a ≡ b
test-once true b P f g = sym (g.1 (f.0 refl))
test-once false true P f g = f.1 (g.0 refl)
test-once false false P f g = refl

-- two inputs of the chosen packages agree
pub inputs-agree : (cx : ContextRecord) (ids : List ℕ) (s t : PlanInput) → IsInputOf cx ids s → IsInputOf cx ids t → AgreeInputs s t
inputs-agree cx ids s t h k = record {
  range = h.range ∙ sym k.range;
  step = h.step ∙ sym k.step;
  as_cargo = test-once s.as_cargo t.as_cargo _ h.as_cargo k.as_cargo;
  targets = h.targets ∙ sym k.targets;
  cargo_minor = h.cargo_minor ∙ sym k.cargo_minor;
  members = zip-alike (IsMember cx) AreAlike (member-once cx) ids s.packages.items t.packages.items h.members k.members;
}

-- ---- their runs

strict : (s t : List ℕ) → IsBefore s t → IsBefore t s → ⊥
strict s t b d = let r = before_trans s t s b d in r.absent r.present

-- where two ordered lists have the same members and the same first one, so do their tails
behind-in : (x y : List ℕ) (xs ys : List (List ℕ)) → x ≡ y → All (IsBefore x) xs → ((s : List ℕ) → Contains (x ∷ xs) s → Contains (y ∷ ys) s) → (s : List ℕ) → Contains xs s → Contains ys s
behind-in x y xs ys same before f s c =
    let behind = All-contains (IsBefore x) xs s before c in
    elim (Contains-cons_cases y ys s (f s (Contains-tail x xs s c))) [
      | inl e ↦ let here = subst (IsBefore x) (sym (same ∙ e)) behind in absurd (strict x x here here)
      | inr d ↦ d
    ]

-- two ordered lists with the same members are equal
pub ordered-once : (xs ys : List (List ℕ)) → Pairwise IsBefore xs → Pairwise IsBefore ys → ((s : List ℕ) → Contains xs s → Contains ys s) → ((s : List ℕ) → Contains ys s → Contains xs s) → xs ≡ ys
ordered-once [] [] ox oy f g = refl
ordered-once [] (y ∷ ys) ox oy f g = absurd (Contains-nil y (g y (Contains-head y ys)))
ordered-once (x ∷ xs) [] ox oy f g = absurd (Contains-nil x (f x (Contains-head x xs)))
ordered-once (x ∷ xs) (y ∷ ys) ox oy f g =
    let same : x ≡ y =
    elim (Contains-cons_cases y ys x (f x (Contains-head x xs))) [
      | inl e ↦ sym e
      | inr c ↦ elim (Contains-cons_cases x xs y (g y (Contains-head y ys))) [
        | inl e ↦ e
        | inr d ↦ absurd (strict x y (All-contains (IsBefore x) xs y ox.0 d) (All-contains (IsBefore y) ys x oy.0 c))
      ]
    ] in
    let rest : xs ≡ ys = ordered-once xs ys ox.1 oy.1 (behind-in x y xs ys same ox.0 f) (behind-in y x ys xs (sym same) oy.0 g) in
    ap (λ t. t ∷ xs) same ∙ ap (λ t. y ∷ t) rest

listing-once : (n : ℕ) (P : List ℕ → Type 0) (xs ys : List (List ℕ)) → IsListing n P xs → IsListing n P ys → xs ≡ ys
listing-once n P xs ys h k = ordered-once xs ys h.ordered k.ordered (λ s c. (k.exact s).1 ((h.exact s).0 c)) (λ s c. (h.exact s).1 ((k.exact s).0 c))

sets-once : (b : Bool) (w : PackageRulesRecord) (p : PackageRecord) (f : Features) (xs ys : List (List ℕ)) → w.strength ≡ None → AreSets b w p f xs → AreSets b w p f ys → xs ≡ ys
sets-once true w p f xs ys all h k =
    let c = package_choice w p f in
    let n = length (candidates w f) in
    listing-once n (IsListed c) xs ys (subst (λ o. ArePowersets o c n xs) all h) (subst (λ o. ArePowersets o c n ys) all k)
sets-once false w p f xs ys all h k = h ∙ sym k

runs-once : (b : Bool) (w : PackageRulesRecord) (p : PackageRecord) (f : Features) (xs ys : List PackageRun) → w.strength ≡ None → MatchBool b (AreSetRuns w p f xs) (xs ≡ Plain ∷ []) → MatchBool b (AreSetRuns w p f ys) (ys ≡ Plain ∷ []) → xs ≡ ys
runs-once true w p f xs ys all h k = h.made ∙ ap (runs_from (options_of w f)) (sets-once w.feature_powerset w p f h.sets k.sets all h.are_sets k.are_sets) ∙ sym k.made
runs-once false w p f xs ys all h k = h ∙ sym k

-- numbers that can't differ are equal
not-apart : (m n : ℕ) → ¬ (¬ (m ≡ n)) → m ≡ n
not-apart m n h =
    elim (cases_lt m n) [
      | inl lt ↦ absurd (h (λ e. omega (arith, lt, e)))
      | inr le ↦ elim (cases_lt n m) [ inl lt ↦ absurd (h (λ e. omega (arith, lt, e))) | inr ge ↦ omega (arith, le, ge) ]
    ]

-- a package has one number of runs
package-once : (cx : ContextRecord) → HaveNoStrength cx → (s : PlanInput) (latest : Option Version) (id : ℕ) (k l : PackageView) → IsPackageOf cx s latest id k → IsPackageOf cx s latest id l → length k.runs ≡ length l.runs
package-once cx all s latest id k l a b =
    let pkg = same_Some a.pkg b.pkg (sym a.known ∙ b.known) in
    let features = same_Some a.features b.features (sym a.loaded ∙ b.loaded) in
    let many = λ (rs : List PackageRun). length rs in
    let used : IsUsed cx s latest id → length k.runs ≡ length l.runs = λ u.
    let w = rules_at cx b.pkg b.features in
    let runs = subst (λ q. AreRuns (rules_at cx q b.features) q b.features k.runs) pkg (subst (λ f. AreRuns (rules_at cx a.pkg f) a.pkg f k.runs) features (a.runs u)) in
    ap many (runs-once (w.each_feature || w.feature_powerset) w b.pkg b.features k.runs l.runs (all id b.pkg b.features b.known b.loaded) runs (b.runs u)) in
    let unused : ¬ IsUsed cx s latest id → length k.runs ≡ length l.runs = λ none. ap many ((a.unused none).1 ∙ sym (b.unused none).1) in
    not-apart (length k.runs) (length l.runs) (λ apart. apart (unused (λ u. apart (used u))))

-- the number of runs of each chosen package is determined, where there are no samples
pub counts-once : (cx : ContextRecord) → HaveNoStrength cx → (s : PlanInput) (latest : Option Version) (ids : List ℕ) (packages others : List PackageView) → AllZip (IsPackageOf cx s latest) ids packages → AllZip (IsPackageOf cx s latest) ids others
    → run_counts packages ≡ run_counts others
counts-once cx all s latest ids packages others h k =
    map-alike (λ (p q : PackageView). length p.runs ≡ length q.runs) (λ p. length p.runs) (λ p q e. e) packages others
    (zip-alike (IsPackageOf cx s latest) (λ (p q : PackageView). length p.runs ≡ length q.runs) (package-once cx all s latest) ids packages others h k)

used-same : (cx : ContextRecord) (s t : PlanInput) (latest : Option Version) → AgreeInputs s t → (id : ℕ) → IsUsed cx s latest id → IsUsed cx t latest id
used-same cx s t latest same id used = (
  used.0,
  subst (λ r. IsStepList r t latest used.0) same.range (steps-same s t same s.range latest used.0 used.1),
  subst (λ r. UsesSome r used.0 (rust_version_at cx id)) same.range used.2,
)

-- the packages of one input are those of another that agrees with it
pub packages-same : (cx : ContextRecord) (s t : PlanInput) (latest : Option Version) → AgreeInputs s t → AgreeInputs t s → (ids : List ℕ) (packages : List PackageView) → AllZip (IsPackageOf cx s latest) ids packages → AllZip (IsPackageOf cx t latest) ids packages
packages-same cx s t latest same back ids packages =
    zip-weaker (IsPackageOf cx s latest) (IsPackageOf cx t latest)
    (λ id k h. package-moved cx (IsUsed cx s latest id) (IsUsed cx t latest id) id k (used-same cx s t latest same id) (used-same cx t s latest back id) h) ids packages
