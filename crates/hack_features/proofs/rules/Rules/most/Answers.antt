use Rattle.std.proofs.lemmas.Bool.{and_parts}
use Rattle.hack_features.specs.Tables.{keeps_depth}
use Rattle.hack_features.proofs.RuleLemmas.{depth_iff}
use Rattle.hack_features.proofs.rules.Rules.most.Goals as goal

pub returns-clause-within : goal.returns-clause-within
returns-clause-within c = λ s permitted.
    let depth = c.args.self.now.given.depth in
    (depth_iff depth s).0 (and_parts (keeps_depth depth s) _ permitted).0
