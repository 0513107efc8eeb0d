use Rattle.std.proofs.Common.{◌<◌, sym, length, arith, false}
use Rattle.hack_suspects.proofs.PatternLemmas.{differs-at}
use Rattle.hack_suspects.proofs.patterns.compare_places.Goals as goal

pub returns-in-Less : goal.returns-in-Less
returns-in-Less c =
    let lt : c.loop-place.place < length c.args.other.now = omega (arith, c.loop-place-test.true, c.requires) in
    differs-at c.args.one.now c.args.other.now c.loop-place.place (record { candidate = 0; on = false }) c.loop-place-test.true lt c.loop-place.invariant c.in-Less.ensures

pub returns-in-Greater : goal.returns-in-Greater
returns-in-Greater c =
    let lt : c.loop-place.place < length c.args.other.now = omega (arith, c.loop-place-test.true, c.requires) in
    differs-at c.args.other.now c.args.one.now c.loop-place.place (record { candidate = 0; on = false }) lt c.loop-place-test.true (sym c.loop-place.invariant) c.in-Greater.ensures
