use Rattle.hack_metadata.proofs.NodeLemmas.{node-found}
use Rattle.hack_metadata.proofs.metadata.Metadata.node.Goals as goal

pub returns : goal.returns
returns c = node-found c.get.result c.args.self.now.resolve.nodes c.args.id c.get.ensures.value
