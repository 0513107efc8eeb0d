use Rattle.std.proofs.Common.{rules, tests, ◌∙◌, sym, Bool, ◌+◌, cond}
use Rattle.std.proofs.lemmas.Iterator.{YieldsList-from_slice}
use Rattle.std.proofs.lemmas.Iterator.Consumers.{YieldsList-from_filter, count_from_yields_List}
use Rattle.std.proofs.lemmas.List.Folds.{fold-map}
use Rattle.std.proofs.lemmas.List.Sums.{length-filter}
use Rattle.hack_suspects.specs.declared.suspect.RunOutcome.{RunOutcome as Run}
use Rattle.hack_suspects.specs.Uses.{is_use}
use Rattle.hack_suspects.proofs.uses.count_uses.Goals as goal

pub returns : goal.returns
returns c =
    let test : Run → Bool = λ run. is_use c.args.pattern.now.items (record { on = run.on.items; failed = run.failed }) in
    count_from_yields_List c.filter.result _ c.count.ensures.ran (YieldsList-from_filter _ test (YieldsList-from_slice c.args.outcomes.now cc) c.filter.ensures.closure (λ x b q k. search (rules, tests)))
    ∙ length-filter test c.args.outcomes.now ∙ sym (fold-map (λ n run. n + cond (is_use c.args.pattern.now.items run) 1 0) _ 0 c.args.outcomes.now)
