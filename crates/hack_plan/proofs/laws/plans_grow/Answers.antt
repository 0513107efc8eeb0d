use Rattle.hack_plan.specs.GrowthLaws.{grown_by_run, grown_refl, grown_trans}
use Rattle.hack_plan.proofs.laws.plans_grow.Goals as goal

pub returns-clause-same : goal.returns-clause-same
returns-clause-same c = grown_refl

pub returns-clause-more : goal.returns-clause-more
returns-clause-more c = grown_trans

pub returns-clause-one : goal.returns-clause-one
returns-clause-one c = grown_by_run
