use Rattle.std.proofs.Common.{◌∙◌, List, Bool, ap}
use Rattle.hack_features.specs.Samples.{positions_of}
use Rattle.hack_features.proofs.MemberLemmas.{may-added}
use Rattle.hack_features.proofs.samples.RulesAllowed.may_add.Goals as goal

pub returns-clause-answer : goal.returns-clause-answer
returns-clause-answer c = c.permits_in.ensures.answer ∙ may-added c.args.self.now c.args.set.now c.args.position c.requires.inside c.requires.fresh

pub returns-clause-same_may : goal.returns-clause-same_may
returns-clause-same_may c = ap (λ may (s : List Bool). may (positions_of s)) c.permits_in.ensures.same.may
