use Rattle.std.proofs.Common.{rules, tests, ◌∙◌, sym, subst, []}
use Rattle.std.proofs.lemmas.Iterator.{YieldsList-from_slice}
use Rattle.std.proofs.lemmas.Iterator.Consumers.{YieldsList-from_filter, count_from_yields_List}
use Rattle.std.proofs.lemmas.List.Sums.{length-filter}
use Rattle.hack_suspects.specs.Suspects.{outcomes_of}
use Rattle.hack_suspects.specs.Counts.{Fails, IsNumberOf, no_runs}
use Rattle.hack_suspects.proofs.CountLemmas.{failed-from}
use Rattle.hack_suspects.proofs.counts.count_failed.Goals as goal

pub returns : goal.returns
returns c =
    let runs = c.args.outcomes.now in
    let is = count_from_yields_List c.filter.result _ c.count.ensures.ran (YieldsList-from_filter _ (λ run. run.failed) (YieldsList-from_slice runs cc) c.filter.ensures.closure (λ x b q k. search (rules, tests))) ∙ length-filter (λ run. run.failed) runs in
    subst (IsNumberOf Fails (outcomes_of runs)) (sym is) (failed-from [] 0 no_runs runs)
