-- The versions that a package uses are some of the plan's.
use Rattle.std.proofs.Common.{◌≡◌, ◌<◌, ◌+◌, ◌-◌, ◌++◌, ◌∷◌, [], ℕ, Bool, true, false, cond, List, Option, Some, None, Vec, Global, filter, map, length, get_or, refl, sym, ap, ◌∙◌, arith}
use Rattle.std.specs.Prelude.{slice_get}
use Rattle.std.specs.List.{list_any, range_with_len}
use Rattle.std.specs.Option.{option_map_or}
use Rattle.std.proofs.lemmas.List.Elements.{Contains-get_or}
use Rattle.std.proofs.lemmas.Option.{slice_get-get_or}
use Rattle.std.proofs.lemmas.List.{get_or-map, length-map}
use Rattle.std.proofs.lemmas.List.FromFn.{get_or-map-range_with_len, length-map-range_with_len}
use Rattle.hack_base.proofs.Members.{Contains-filter_from}
use Rattle.hack_plan.specs.View.{PlanView}
use Rattle.hack_plan.specs.declared.parts.PlanVersion.{PlanVersion}
use Rattle.hack_msrv.specs.Internal.{HasVersion}
use Rattle.hack_msrv.specs.Searches.{is_used, uses_of}
use Rattle.hack_msrv.specs.Trials.{is_of}
use Rattle.hack_msrv.proofs.RangeLemmas.{filter-more}

-- where a test of an element is true, it is there
there : (q : PlanVersion → Bool) (o : Option PlanVersion) → option_map_or q o false ≡ true → (v : PlanVersion) × (o ≡ Some v)
there q None is = absurd (cc is)
there q (Some v) is = (v, refl)

pub has-version : (plan : PlanView) (p place : ℕ) → place < length (uses_of plan p) → HasVersion plan (uses_of plan p) place
has-version plan p place lt =
    let uses : List ℕ = uses_of plan p in
    let index : ℕ = get_or uses place 0 in
    let used = Contains-filter_from (is_used plan p) (range_with_len 0 (length plan.versions)) index (Contains-get_or uses place 0 lt) in
    let v = there _ (slice_get plan.versions index) used.1 in
    record { index = index; version = v.0; used = slice_get-get_or uses place 0 lt; at = v.1 }

-- one version more
pub uses-more : (plan : PlanView) (p index : ℕ) (v : PlanVersion) → slice_get plan.versions index ≡ Some v → (b : Bool) → b ≡ list_any (is_of plan p) (range_with_len v.first (v.end - v.first)) → (uses : List ℕ)
    → uses ≡ filter (is_used plan p) (range_with_len 0 index) → filter (is_used plan p) (range_with_len 0 (index + 1)) ≡ uses ++ cond b (index ∷ []) []
uses-more plan p index v at b is uses so-far =
    let used : is_used plan p index ≡ b = ap (λ (o : Option PlanVersion). option_map_or (λ v. list_any (is_of plan p) (range_with_len v.first (v.end - v.first))) o false) at ∙ sym is in
    let from : index + 1 - 0 ≡ index + 1 = omega arith in
    let to : index - 0 ≡ index = omega arith in
    ap (λ (n : ℕ). filter (is_used plan p) (range_with_len 0 n)) (sym from) ∙ filter-more (is_used plan p) 0 index (omega arith)
    ∙ ap (λ (n : ℕ). filter (is_used plan p) (range_with_len 0 n) ++ filter (is_used plan p) (index ∷ [])) to ∙ ap (λ (l : List ℕ). l ++ filter (is_used plan p) (index ∷ [])) (sym so-far) ∙ ap (λ (l : List ℕ). uses ++ l) (one b used)
  where
    one : (b : Bool) → is_used plan p index ≡ b → filter (is_used plan p) (index ∷ []) ≡ cond b (index ∷ []) []
    one true e = rw e refl
    one false e = rw e refl

-- what is made of each number, at a place
pub uses-at : (plan : PlanView) (uses : List (Vec ℕ Global)) (p : ℕ) (v : Vec ℕ Global) → map (λ (u : Vec ℕ Global). u.items) uses ≡ map (uses_of plan) (range_with_len 0 (length plan.packages)) → p < length uses
    → v ≡ get_or uses p v → v.items ≡ uses_of plan p
uses-at plan uses p v all lt is =
    let long : length uses ≡ length plan.packages = sym (length-map uses (λ (u : Vec ℕ Global). u.items)) ∙ ap length all ∙ length-map-range_with_len (uses_of plan) 0 (length plan.packages) in
    let zero-p : 0 + p ≡ p = omega arith in
    ap (λ (u : Vec ℕ Global). u.items) is ∙ sym (get_or-map (λ (u : Vec ℕ Global). u.items) uses p v v.items lt) ∙ ap (λ l. get_or l p v.items) all
    ∙ get_or-map-range_with_len (uses_of plan) 0 (length plan.packages) p p v.items (omega (arith, long)) zero-p

pub uses-long : (plan : PlanView) (uses : List (Vec ℕ Global)) → map (λ (u : Vec ℕ Global). u.items) uses ≡ map (uses_of plan) (range_with_len 0 (length plan.packages)) → length uses ≡ length plan.packages
uses-long plan uses all = sym (length-map uses (λ (u : Vec ℕ Global). u.items)) ∙ ap length all ∙ length-map-range_with_len (uses_of plan) 0 (length plan.packages)
