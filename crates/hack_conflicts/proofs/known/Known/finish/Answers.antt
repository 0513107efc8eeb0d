use Rattle.std.proofs.Common.{arith}
use Rattle.hack_conflicts.proofs.KnownLemmas.{finish_last}
use Rattle.hack_conflicts.proofs.known.Known.finish.Goals as goal

pub returns-in-Some-clause-runs : goal.returns-in-Some-clause-runs
returns-in-Some-clause-runs c = λ front set h.
    let (_, _, _, (lt, at), _) = c.in-Some.ensures.item in
    finish_last c.args.self.now.runs.items front set c.args.outcome c.in-Some.last.now h lt _ (omega (arith, c.args.self.now.runs.ok.0)) at
