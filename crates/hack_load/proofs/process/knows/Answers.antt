use Rattle.hack_load.specs.Contexts.{features_at}
use Rattle.hack_load.specs.ContextView.{context_view}
use Rattle.hack_load.proofs.GivenLemmas.{knows-is}
use Rattle.hack_load.proofs.process.knows.Goals as goal

pub returns : goal.returns
returns c = knows-is c.contains.result (features_at (context_view c.args.cx.now) c.args.id.index) c.pkg_features.result.now c.args.name.now c.pkg_features.ensures c.contains.ensures
