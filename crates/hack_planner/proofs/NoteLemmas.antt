-- Notices on one package, slot or version more.
use Rattle.std.proofs.Common.{◌≡◌, arith, ℕ, ◌+◌, ◌<◌, ◌≤◌, List, [], ◌∷◌, ◌++◌, length, get_or, map, refl, ap, sym, ◌∙◌, append-nil, Bool, Some, option_map}
use Rattle.std.specs.List.{flat_map, range_with_len, slice_get}
use Rattle.std.specs.Option.{option_map_or}
use Rattle.std.proofs.lemmas.List.{flat_map_more, map-id}
use Rattle.std.proofs.lemmas.List.FromFn.{map-range_with_len_more}
use Rattle.std.proofs.lemmas.Option.{slice_get-map, slice_get_read, slice_get_past}
use Rattle.hack_metadata.specs.RecordViews.{place_at}
use Rattle.hack_metadata.specs.declared.metadata.resolve.PackageId.{PackageId}
use Rattle.hack_load.specs.Contexts.{ContextRecord, package_at, features_at}
use Rattle.hack_load.specs.declared.features.Features.{Features}
use Rattle.hack_metadata.specs.Records.{PackageRecord}
use Rattle.hack_planner.specs.Calls.{candidate_notes_at, package_notes, rules_at}
use Rattle.hack_load.specs.GivenFeatures.{left_out_for}
use Rattle.hack_base.specs.Notes.{Note}

-- one number more
pub range-more : (n : ℕ) → range_with_len 0 (n + 1) ≡ range_with_len 0 n ++ n ∷ []
range-more n =
    sym (map-id (range_with_len 0 (n + 1)))
    ∙ map-range_with_len_more (λ (k : ℕ). k) 0 n n (omega arith)
    ∙ ap (λ l. l ++ n ∷ []) (map-id (range_with_len 0 n))

-- the notices of one slot more
pub slots-more : {A : Type 0} (f : ℕ → List A) (old mid new : List A) (n : ℕ) → new ≡ mid ++ f n → mid ≡ old ++ flat_map f (range_with_len 0 n) → new ≡ old ++ flat_map f (range_with_len 0 (n + 1))
slots-more f old mid new n grown so =
    grown ∙ ap (λ l. l ++ f n) so ∙ flat_map_more f old (range_with_len 0 n) n ∙ ap (λ l. old ++ flat_map f l) (sym (range-more n))

-- the package at an index
pub place-of : (ids : List PackageId) (p : ℕ) (id : PackageId) → p < length ids → id ≡ get_or ids p id → slice_get (map place_at ids) p ≡ Some id.index
place-of ids p id lt is = slice_get-map place_at ids p ∙ ap (option_map place_at) (slice_get_read ids (length ids) p id refl lt is)

-- the notices on that package
pub told-of : (cx : ContextRecord) (ids : List PackageId) (p : ℕ) (id : PackageId) → p < length ids → id ≡ get_or ids p id → left_out_for cx (Some id.index) ≡ left_out_for cx (slice_get (map place_at ids) p)
told-of cx ids p id lt is = ap (left_out_for cx) (sym (place-of ids p id lt is))

-- no notices past the end
pub none-told : (cx : ContextRecord) (ids : List PackageId) (p : ℕ) (old : List Note) → length ids ≤ p → old ≡ old ++ left_out_for cx (slice_get (map place_at ids) p)
none-told cx ids p old past =
    sym (append-nil old) ∙ ap (λ o. old ++ left_out_for cx o) (sym (slice_get-map place_at ids p ∙ ap (option_map place_at) (slice_get_past ids p past)))

-- the notices on the features of a package that is known
pub notes-at : (cx : ContextRecord) (single : Bool) (id : ℕ) (pkg : PackageRecord) (features : Features) → package_at cx id ≡ Some pkg → features_at cx id ≡ Some features
    → candidate_notes_at cx single id ≡ package_notes cx.args single (rules_at cx pkg features) pkg features
notes-at cx single id pkg features known loaded =
    ap (λ o. option_map_or (λ p. option_map_or (λ f. package_notes cx.args single (rules_at cx p f) p f) (features_at cx id) []) o []) known
    ∙ ap (λ o. option_map_or (λ f. package_notes cx.args single (rules_at cx pkg f) pkg f) o []) loaded
