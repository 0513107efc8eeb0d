use Rattle.std.proofs.Common.{[], ◌∙◌, sym, arith, get_or, List, ℕ}
use Rattle.std.proofs.lemmas.List.{length-map}
use Rattle.hack_samples.specs.Sets.{rows_of}
use Rattle.hack_features.specs.ChoiceView.{choice_in}
use Rattle.hack_routes.specs.RoutesView.{routed_names}
use Rattle.hack_base.proofs.Steps.{row_items}
use Rattle.hack_features.proofs.TableLemmas.{spares_iff, exclusive_iff, required_iff, groups_of_hits, reached_iff}
use Rattle.hack_features.proofs.tables.Tables.new.Goals as goal

pub returns : goal.returns
returns c =
    let choice = choice_in c.args.given in
    let e = c.args.enabled.now in
    let p = c.requires in
    let all : List (List ℕ) = rows_of e.candidates.items in
    let count = length-map e.candidates.items row_items in
    record {
      spared = λ a b la lb.
          let same = c.in_ok-spare_rows.ensures a b (omega (arith, p.candidates_at.count, count)) (omega (arith, p.candidates_at.count, count)) in
          let both = spares_iff choice.map (routed_names e.routes) e.routes.keys.items (rows_of e.routes.marks.items) p.routes (get_or all a []) (get_or all b []) (get_or choice.candidates a []) (get_or choice.candidates b []) (p.candidates_at.each a la) (p.candidates_at.each b lb) in
          (λ t. both.0 (sym same ∙ t), λ s. same ∙ both.1 s);
      exclusive = exclusive_iff choice (rows_of c.in_ok-hit_rows.field-0.items) c.in_ok-hit_rows.ensures;
      required = required_iff choice (rows_of c.in_ok-serve_rows.field-0.items) (c.in_ok-serve_rows.ensures choice.map choice.candidates choice.at_least_one_of p);
      groups = groups_of_hits choice (rows_of c.in_ok-hit_rows.field-0.items) c.in_ok-hit_rows.ensures;
      reached = reached_iff choice (rows_of c.in_ok-hit_rows.field-0.items) c.in_ok-hit_rows.ensures;
    }
