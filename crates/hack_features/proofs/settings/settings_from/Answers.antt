use Rattle.std.proofs.Common.{rules, tests, ◌≡◌, List, ℕ, Bool, IfOk, sym, subst}
use Rattle.std.proofs.lemmas.Iterator.{YieldsList-from_slice, YieldsList-from_map, items_from_collect}
use Rattle.std.proofs.lemmas.Simd.{map-map}
use Rattle.hack_samples.specs.Sets.{rows_of}
use Rattle.hack_base.proofs.Steps.{row_items}
use Rattle.hack_features.specs.InternalSettings.{leads_to_each}
use Rattle.hack_features.proofs.settings.settings_from.Goals as goal

pub returns : goal.returns
returns c =
    let test : List ℕ → Bool = leads_to_each (rows_of c.args.enabled.now.routes.marks.items) c.args.from.now in
    let rows = c.args.enabled.now.candidates.items in
    subst (λ l. IfOk c.collect.result (λ row. row.items ≡ l)) (sym (map-map test row_items rows))
    (items_from_collect _ c.collect.ensures.ran (YieldsList-from_map _ (λ row. test row.items) (YieldsList-from_slice rows cc) c.map.ensures.closure (λ x r q k. search (rules, tests))))
