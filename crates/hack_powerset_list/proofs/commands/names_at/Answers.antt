use Rattle.std.proofs.Common.{◌≡◌, ◌++◌, ◌∷◌, [], ℕ, sym, ap, ◌∙◌, take, get_or, length, map, refl, Some, None}
use Rattle.std.specs.Borrow.{Bor}
use Rattle.std.specs.Prelude.{slice_get, option_map}
use Rattle.std.proofs.lemmas.Bool.{ltb-true, ltb-false}
use Rattle.std.proofs.lemmas.List.{map-append}
use Rattle.std.proofs.lemmas.Option.{slice_get_read, slice_get_past, slice_get-map}
use Rattle.hack_base.specs.Names.{Name, names_behind}
use Rattle.hack_features.specs.Feature.{name_of}
use Rattle.hack_sets.specs.Sets.{items_at}
use Rattle.hack_powerset_list.proofs.LineLemmas.{chosen-found, chosen-missed}
use Rattle.hack_powerset_list.proofs.commands.names_at.Goals as goal

pub loop-p-preserved-in_default : goal.loop-p-preserved-in_default
loop-p-preserved-in_default c =
    let fs = c.args.features.now in
    let xs = c.args.positions.now in
    let p : ℕ = get_or xs c.loop-p.p-index 0 in
    let none : slice_get fs p ≡ None = slice_get_past fs p (ltb-false p (length fs) (sym c.in_default.ensures.lookup.0)) in
    c.loop-p.invariant ∙ chosen-missed (map name_of fs) [] xs c.loop-p.p-index c.loop-p-test.true (slice_get-map name_of fs p ∙ ap (option_map name_of) none)

pub loop-p-preserved : goal.loop-p-preserved
loop-p-preserved c =
    let fs = c.args.features.now in
    let xs = c.args.positions.now in
    let p : ℕ = get_or xs c.loop-p.p-index 0 in
    let feature = c.in-Some.feature.now in
    let found : slice_get fs p ≡ Some feature =
    slice_get_read fs (length fs) p feature refl (ltb-true p (length fs) (sym c.in-Some.ensures.lookup.0)) c.in-Some.ensures.lookup.1 in
    ap names_behind c.in_ok-push.ensures.items
    ∙ map-append (λ (t : Bor Name). t.now) c.loop-p.names.items (c.name.result ∷ [])
    ∙ ap (λ l. l ++ c.name.result.now ∷ []) c.loop-p.invariant
    ∙ ap (λ n. items_at (map name_of fs) (take c.loop-p.p-index xs) ++ n ∷ []) c.name.ensures
    ∙ chosen-found (map name_of fs) [] xs c.loop-p.p-index c.loop-p-test.true (name_of feature) (slice_get-map name_of fs p ∙ ap (option_map name_of) found)
