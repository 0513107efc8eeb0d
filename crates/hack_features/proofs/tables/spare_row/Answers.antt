use Rattle.std.proofs.Common.{◌<◌, [], sym, ap, ◌∙◌, arith, get_or, List, ℕ}
use Rattle.std.proofs.lemmas.List.{length-map}
use Rattle.hack_samples.specs.Sets.{rows_of}
use Rattle.hack_routes.specs.Rows.{bit}
use Rattle.hack_base.proofs.Steps.{row_items}
use Rattle.hack_features.proofs.TableLemmas.{spares_nothing, has_names}
use Rattle.hack_features.proofs.tables.spare_row.Goals as goal

pub returns-then-are_ends : goal.returns-then-are_ends
returns-then-are_ends c = λ q lt.
    let all : List (List ℕ) = rows_of c.args.candidates.now in
    ap (λ row. bit row q) c.new.ensures.items
    ∙ sym (spares_nothing c.args.routes.now.keys.items (rows_of c.args.routes.now.marks.items) c.args.names.now (get_or all q []) (sym c.are_ends.ensures ∙ c.if-are_ends.true)
    (has_names all q (omega (arith, length-map c.args.candidates.now row_items)) (sym c.requires ∙ c.if-not-some_nameless.true)))

pub returns-else-some-2 : goal.returns-else-some-2
returns-else-some-2 c = λ q lt.
    let h = c.loop-others.invariant in
    let seen : q < c.loop-others.others-index = omega arith in
    ap (λ row. bit row q) c.new-else-some-2.ensures.items ∙ sym (h.unless c.if-some-2.false q seen) ∙ h.says q seen
