use Rattle.hack_load.proofs.ContextLemmas.{context-whole}
use Rattle.hack_planner.proofs.input.member.Goals as goal

pub packages-requires : goal.packages-requires
packages-requires c = (context-whole c.args.cx.now).packages c.args.id.index c.requires
