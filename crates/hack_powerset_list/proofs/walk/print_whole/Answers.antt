use Rattle.std.proofs.Common.{◌++◌, List, map, ap, ◌∙◌, sym, string_bytes}
use Rattle.hack_base.specs.Writes.{AppendsFront}
use Rattle.hack_base.specs.Names.{Name}
use Rattle.hack_features.specs.Feature.{name_of}
use Rattle.hack_plan.specs.Runs.{Set}
use Rattle.hack_powerset_list.specs.Lines.{run_line}
use Rattle.hack_powerset_list.proofs.PageLemmas.{on_err-same}
use Rattle.hack_powerset_list.proofs.walk.print_whole.Goals as goal

pub returns-clause-err : goal.returns-clause-err
returns-clause-err g c =
    let names : List Name = map name_of c.args.features.now in
    on_err-same c.print_set.result (λ l. AppendsFront (g.W.Sink.contents c.args.out.now) (g.W.Sink.contents c.print_set.new.out) (string_bytes c.args.page.now ++ l)) _ _
    (ap (λ s. run_line names (Set s)) (sym c.in-Some.ensures.cases.0))
    (c.print_set.ensures.err c.in-Some.rest.now (c.as_str.ensures.value ∙ c.in_ok-others.ensures))
