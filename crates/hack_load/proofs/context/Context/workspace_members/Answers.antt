use Rattle.hack_load.proofs.ContextLemmas.{context-whole}
use Rattle.hack_load.proofs.context.Context.workspace_members.Goals as goal

pub returns-clause-whole : goal.returns-clause-whole
returns-clause-whole c = context-whole c.args.self.now
