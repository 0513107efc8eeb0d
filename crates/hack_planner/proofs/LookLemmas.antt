-- Lemmas on the packages whose samples are looked for long.
use Rattle.std.proofs.Common.{◌≡◌, ◌∙◌, ℕ, ◌+◌, ◌<◌, List, [], ◌∷◌, ◌++◌, Option, Some, None, length, get_or, map, take, refl, sym, ap, ◌⊎◌, inl, inr, String, Global}
use Rattle.std.specs.Prelude.{option_and_then}
use Rattle.std.specs.List.{cons_option, filter_map}
use Rattle.std.specs.Option.{option_to_list}
use Rattle.std.proofs.lemmas.List.{map_more}
use Rattle.std.proofs.lemmas.List.Elements.{filter_map-append}
use Rattle.hack_load.specs.Contexts.{ContextRecord, package_at, features_at}
use Rattle.hack_load.specs.declared.features.Features.{Features}
use Rattle.hack_metadata.specs.Records.{PackageRecord}
use Rattle.hack_planner.specs.Calls.{rules_at}
use Rattle.hack_planner.specs.ContextMembers.{IsChoiceFault}
use Rattle.hack_planner.specs.declared.fault.PackagesFault.{PackagesFault}
use Rattle.hack_planner.specs.declared.fault.PackagesFault.TheVariants.{Memory, Unmatched}
use Rattle.hack_planner.specs.Looks.{look_at, look_of}

-- the text on a package that was loaded
pub look-here : (cx : ContextRecord) (id : ℕ) (p : PackageRecord) (f : Features) → package_at cx id ≡ Some p → features_at cx id ≡ Some f → look_at cx id ≡ look_of (rules_at cx p f) p.name f
look-here cx id p f known loaded =
    ap (option_and_then (λ (q : PackageRecord). option_and_then (λ (g : Features). look_of (rules_at cx q g) q.name g) (features_at cx id))) known
    ∙ ap (option_and_then (λ (g : Features). look_of (rules_at cx p g) p.name g)) loaded

one-found : {X Y : Type 0} (f : X → Option Y) (x : X) → filter_map f (x ∷ []) ≡ option_to_list (f x)
one-found f x = by (f x)
  where
    by : {Y : Type 0} (o : Option Y) → cons_option o [] ≡ option_to_list o
    by None = refl
    by (Some y) = refl

-- what is found in one more element
pub found-more : {X Y Z : Type 0} (f : Y → Option Z) (v : X → Y) (xs : List X) (i : ℕ) (d : X) (old new : List Z) → i < length xs → new ≡ old ++ option_to_list (f (v (get_or xs i d))) → old ≡ filter_map f (map v (take i xs))
    → new ≡ filter_map f (map v (take (i + 1) xs))
found-more f v xs i d old new lt grown before =
    let y = v (get_or xs i d) in
    grown ∙ ap (λ l. l ++ option_to_list (f y)) before
    ∙ ap (λ l. filter_map f (map v (take i xs)) ++ l) (sym (one-found f y))
    ∙ sym (filter_map-append f (map v (take i xs)) (y ∷ []))
    ∙ ap (filter_map f) (sym (map_more v xs i d lt))

-- the packages aren't known for want of memory, or since one isn't there
pub unknown-by : (cx : ContextRecord) (e : PackagesFault) (spec : String Global) → e ≡ Unmatched spec → (e ≡ Memory) ⊎ IsChoiceFault cx e → IsChoiceFault cx e
unknown-by cx e spec is cause =
    elim cause [
      | inl without ↦ absurd (let both : Memory ≡ Unmatched spec = sym without ∙ is in cc)
      | inr fault ↦ fault
    ]
