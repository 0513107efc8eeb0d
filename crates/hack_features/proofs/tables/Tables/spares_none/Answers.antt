use Rattle.std.proofs.Common.{◌≤◌, ◌++◌, ◌∷◌, [], sym, ap, length, arith}
use Rattle.std.specs.Prelude.{not}
use Rattle.std.proofs.lemmas.Bool.{ltb-false}
use Rattle.std.proofs.lemmas.List.{length-map}
use Rattle.hack_samples.specs.Sets.{rows_of}
use Rattle.hack_routes.specs.Rows.{cell}
use Rattle.hack_base.proofs.Steps.{all_always, row_items}
use Rattle.hack_features.proofs.CandidateLemmas.{past_end}
use Rattle.hack_features.proofs.tables.Tables.spares_none.Goals as goal

pub returns-in-None : goal.returns-in-None
returns-in-None c =
    let beyond : length c.deref.result.now ≤ c.args.p = ltb-false c.args.p (length c.deref.result.now) (sym c.in-None.ensures.lookup.0) in
    let past : length (rows_of c.args.self.now.spares.items) ≤ c.args.p = omega (arith, beyond, c.deref.ensures.len, ap length c.deref.ensures.value, length-map c.args.self.now.spares.items row_items) in
    sym (all_always (λ q. not (cell (rows_of c.args.self.now.spares.items) c.args.p q)) (c.args.positions.now ++ c.args.last ∷ [])
    (λ q. past_end (rows_of c.args.self.now.spares.items) c.args.p q past))
