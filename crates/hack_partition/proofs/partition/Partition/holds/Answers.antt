use Rattle.std.proofs.Common.{arith}
use Rattle.hack_partition.proofs.PieceLemmas.{joined-all, in_just_one}
use Rattle.hack_partition.proofs.partition.Partition.holds.Goals as goal

pub returns-in-Block-clause-once : goal.returns-in-Block-clause-once
returns-in-Block-clause-once c = in_just_one c.args.self.now.count c.args.total (omega arith)

pub returns-in-Block-clause-joined : goal.returns-in-Block-clause-joined
returns-in-Block-clause-joined c = λ plan. joined-all c.args.self.now.count (omega arith) plan

pub returns-in-Turn-clause-once : goal.returns-in-Turn-clause-once
returns-in-Turn-clause-once c = in_just_one c.args.self.now.count c.args.total (omega arith)

pub returns-in-Turn-clause-joined : goal.returns-in-Turn-clause-joined
returns-in-Turn-clause-joined c = λ plan. joined-all c.args.self.now.count (omega arith) plan
