use Rattle.hack_process.proofs.LineLemmas.{behind-is}
use Rattle.hack_process.proofs.cargo.value_in.Goals as goal

pub returns : goal.returns
returns c = behind-is c.args.name.now c.args.line.now c.strip_prefix.result c.strip_prefix.ensures.cases
