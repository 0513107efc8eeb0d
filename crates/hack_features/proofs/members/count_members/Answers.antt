use Rattle.std.proofs.Common.{rules, tests, ◌∙◌}
use Rattle.std.proofs.lemmas.Iterator.{YieldsList-from_slice}
use Rattle.std.proofs.lemmas.Iterator.Consumers.{YieldsList-from_filter, count_from_yields_List}
use Rattle.hack_features.proofs.MemberLemmas.{length-positions}
use Rattle.hack_features.proofs.members.count_members.Goals as goal

pub returns-clause-same : goal.returns-clause-same
returns-clause-same c =
    count_from_yields_List c.filter.result c.count.result c.count.ensures.ran (YieldsList-from_filter _ (λ b. b) (YieldsList-from_slice c.args.set.now cc) c.filter.ensures.closure (λ x b q k. search (rules, tests)))
    ∙ length-positions 0 c.args.set.now
