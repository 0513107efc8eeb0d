use Rattle.std.proofs.Common.{arith, ◌<◌, get_or, ◌-◌}
use Rattle.std.proofs.lemmas.Grind.{common_steps}
use Rattle.hack_manifest.proofs.RunLemmas.{IsCharBoundary-behind}
use Rattle.hack_private_crates.proofs.exclude.front_of.Goals as goal

pub range-requires-clause-end_boundary : goal.range-requires-clause-end_boundary
range-requires-clause-end_boundary c =
    let ascii : get_or c.args.piece.now (c.args.n - 1) 0 < 128 = grind (arith, common_steps) in
    IsCharBoundary-behind _ _ c.utf8.piece (omega arith) (omega arith) ascii
