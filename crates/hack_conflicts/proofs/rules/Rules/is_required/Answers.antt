use Rattle.std.proofs.Common.{◌↔◌, subst, IsTrue, All}
use Rattle.hack_conflicts.specs.Sets.{rows_of}
use Rattle.hack_conflicts.specs.Rules.{Meets}
use Rattle.hack_conflicts.proofs.rules.Rules.is_required.Goals as goal

pub returns : goal.returns
returns c = subst (λ g. IsTrue c.meets_all.result ↔ All (Meets c.args.set.now) (rows_of g)) c.as_slice.ensures.value c.meets_all.ensures
