use Rattle.std.proofs.Common.{rules, tests, ◌≡◌, ◌==◌, ◌∙◌, List, Bool, get_or, length, sym, eqb-true}
use Rattle.std.specs.List.{list_all}
use Rattle.std.proofs.lemmas.Iterator.{YieldsList-from_slice}
use Rattle.std.proofs.lemmas.Iterator.Search.{all_from_yields_List}
use Rattle.std.proofs.lemmas.List.Elements.{Contains-get_or}
use Rattle.std.proofs.lemmas.List.Folds.{list_all-map}
use Rattle.hack_samples.specs.Sets.{rows_of}
use Rattle.hack_base.proofs.Passes.{each_passes}
use Rattle.hack_base.proofs.Steps.{row_items}
use Rattle.hack_routes.proofs.MarkLemmas.{nil_from}
use Rattle.hack_features.proofs.TableLemmas.{lean-bare}
use Rattle.hack_features.proofs.tables.are_empty.Goals as goal

pub returns : goal.returns
returns c = λ yes.
    let test : List Bool → Bool = λ row. length row == 0 in
    let rows = c.args.rows.now in
    let each : c.all.result ≡ list_all test (rows_of rows) =
    all_from_yields_List (λ row. test row.items) _ _ c.all.result c.all.ensures.ran (YieldsList-from_slice rows cc) (λ x b q k. search (rules, tests)) ∙ sym (list_all-map test row_items rows) in
    lean-bare (rows_of rows) (λ k d lt.
    nil_from (get_or (rows_of rows) k d) (eqb-true (length (get_or (rows_of rows) k d)) 0 (each_passes test (rows_of rows) (sym each ∙ yes) (get_or (rows_of rows) k d) (Contains-get_or (rows_of rows) k d lt))))
