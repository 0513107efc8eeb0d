use Rattle.std.proofs.Common.{◌+◌}
use Rattle.hack_manifest.specs.Paths.{at_front}
use Rattle.hack_manifest.proofs.path.own_key.Goals as goal

pub returns-in-Some : goal.returns-in-Some
returns-in-Some c =
    let (front, names) = rw c.in-Some.is at c.in_ok-names.ensures.front in
    at_front (c.loop-i.i + 1) (record { holds = front; shortest = c.loop-i.invariant }) names
