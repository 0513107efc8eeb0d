use Rattle.std.proofs.Common.{arith, sym, Some, None}
use Rattle.hack_base.proofs.PathLemmas.{split_last}
use Rattle.hack_base.proofs.paths.last.Goals as goal

pub returns-in-Some : goal.returns-in-Some
returns-in-Some c = (split_last 47 (omega arith) c.args.p.now (Some (c.in-Some.field-0-0, c.in-Some.part)) c.in-Some.ensures.cases).0

pub returns-in-None : goal.returns-in-None
returns-in-None c = sym (split_last 47 (omega arith) c.args.p.now None c.in-None.ensures.cases).0
