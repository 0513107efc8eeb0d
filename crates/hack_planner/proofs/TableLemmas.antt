-- The names that a table has, put together, and the fault of a package's rules.
use Rattle.std.proofs.Common.{◌≡◌, ◌∙◌, ◌==◌, ◌||◌, ◌+◌, ℕ, Bool, true, false, not, cond, Option, None, Some, option_map, List, [], ◌∷◌, length, map, Contains, Global, String, ap, refl, sym, subst, arith}
use Rattle.std.specs.Prelude.{option_and_then, slice_get}
use Rattle.std.specs.List.{list_any}
use Rattle.std.specs.Option.{option_or}
use Rattle.std.proofs.lemmas.Bool.{eqb-true}
use Rattle.std.proofs.lemmas.List.{length-map}
use Rattle.std.proofs.lemmas.Option.{slice_get_past, slice_get-map}
use Rattle.hack_base.proofs.Members.{Contains-head, Contains-tail}
use Rattle.hack_base.specs.Names.{Name, names_of}
use Rattle.hack_load.specs.Contexts.{ContextRecord, features_at, package_at, place_among}
use Rattle.hack_load.specs.declared.features.Features.{Features}
use Rattle.hack_metadata.specs.MetadataView.{metadata_view}
use Rattle.hack_metadata.specs.RecordViews.{package_view, place_at}
use Rattle.hack_metadata.specs.Records.{MetadataRecord, PackageRecord}
use Rattle.hack_metadata.specs.declared.metadata.Metadata.{Metadata}
use Rattle.hack_metadata.specs.declared.metadata.package.Package.{Package}
use Rattle.hack_metadata.specs.declared.metadata.resolve.PackageId.{PackageId}
use Rattle.hack_planner.specs.Calls.{grouped_at, own_fault_at}
use Rattle.hack_planner.specs.PackageRules.{PackageRulesRecord}
use Rattle.hack_words.specs.declared.cli.args.Args.{Args}
use Rattle.hack_planner.specs.RulesFor.{Grouped, excluded_by, grouped_fault, own_fault}

-- ---- a search for a package among the members

-- where it finds the package, this is a member
pub found-member : (xs : List PackageId) (id : ℕ) → list_any (λ y. y.index == id) xs ≡ true → Contains (map place_at xs) id
found-member [] id h = absurd (cc)
found-member (x ∷ xs) id h = go (x.index == id) refl (found-member xs id)
  where
    go : (b : Bool) → (x.index == id) ≡ b → (list_any (λ y. y.index == id) xs ≡ true → Contains (map place_at xs) id) → Contains (map place_at (x ∷ xs)) id
    go true is rest = subst (λ n. Contains (map place_at (x ∷ xs)) n) (eqb-true x.index id is) (Contains-head x.index (map place_at xs))
    go false is rest = Contains-tail x.index (map place_at xs) id (rest (subst (λ b. (b || list_any (λ y. y.index == id) xs) ≡ true) is h))

-- where it finds nothing, the package has no place
missed-member : (xs : List PackageId) (id : ℕ) → list_any (λ y. y.index == id) xs ≡ false → place_among (map place_at xs) id ≡ length xs
missed-member [] id h = refl
missed-member (x ∷ xs) id h = go (x.index == id) refl (missed-member xs id)
  where
    go : (b : Bool) → (x.index == id) ≡ b → (list_any (λ y. y.index == id) xs ≡ false → place_among (map place_at xs) id ≡ length xs) → place_among (map place_at (x ∷ xs)) id ≡ length (x ∷ xs)
    go true is rest = absurd (let e : true ≡ false = subst (λ b. (b || list_any (λ y. y.index == id) xs) ≡ false) is h in cc)
    go false is rest =
        let after = rest (subst (λ b. (b || list_any (λ y. y.index == id) xs) ≡ false) is h) in
        ap (λ b. cond (not b) (1 + place_among (map place_at xs) id) 0) is ∙ omega (arith, after)

-- and there are no features at it
pub missed-features : (xs : List PackageId) (members : List ℕ) (fs : List Features) (id : ℕ) → map place_at xs ≡ members → length fs ≡ length members → list_any (λ y. y.index == id) xs ≡ false
    → None ≡ slice_get fs (place_among members id)
missed-features xs members fs id same whole missed =
    let here : place_among members id ≡ length xs = ap (λ ms. place_among ms id) (sym same) ∙ missed-member xs id missed in
    let long : length members ≡ length xs = ap length (sym same) ∙ length-map xs place_at in
    sym (slice_get_past fs (place_among members id) (omega arith))

-- ---- the fault of a package's rules

-- a package that is found in the metadata is that of the context
pub package-found : (cx : ContextRecord) (m : Metadata) (id : ℕ) (p : Package) → metadata_view m ≡ cx.metadata → Some p ≡ slice_get m.packages.items id → package_at cx id ≡ Some (package_view p)
package-found cx m id p of_context found =
    ap (λ (r : MetadataRecord). slice_get r.packages id) (sym of_context) ∙ slice_get-map package_view m.packages.items id ∙ ap (option_map package_view) (sym found)

-- where its own table has no fault, it has that of its rules
pub rules-fault : (cx : ContextRecord) (id : ℕ) (p : PackageRecord) (f : Option Features) → package_at cx id ≡ Some p → own_fault p ≡ None → features_at cx id ≡ f
    → own_fault_at cx id ≡ option_and_then (grouped_at cx p) f
rules-fault cx id p f known fine loaded =
    ap (option_and_then (λ q. option_or (own_fault q) (option_and_then (grouped_at cx q) (features_at cx id)))) known
    ∙ ap (λ o. option_or o (option_and_then (grouped_at cx p) (features_at cx id))) fine
    ∙ ap (option_and_then (grouped_at cx p)) loaded

-- what is found by rules that are a record is what is found by that
pub found-in : (o : Option Name) (given : List (String Global)) (a args : Args) (rules r : PackageRulesRecord) → o ≡ excluded_by (names_of given) rules → given ≡ a.features.items → a ≡ args → rules ≡ r → o ≡ excluded_by (names_of args.features.items) r
found-in o given a args rules r found of_args same made =
    found ∙ ap (λ l. excluded_by (names_of l) rules) (of_args ∙ ap (λ (b : Args). b.features.items) same) ∙ ap (excluded_by (names_of args.features.items)) made

-- the fault names what is found
pub grouped-named : (features : List Name) (pkg name x feature : Name) (r : PackageRulesRecord) → Some x ≡ excluded_by features r → name ≡ pkg → feature ≡ x
    → grouped_fault features pkg r ≡ Some (Grouped name feature)
grouped-named features pkg name x feature r found named told =
    ap (option_map (Grouped pkg)) (sym found) ∙ ap (λ n. Some (Grouped n x)) (sym named) ∙ ap (λ y. Some (Grouped name y)) (sym told)
