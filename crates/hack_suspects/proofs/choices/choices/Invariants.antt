use Rattle.std.proofs.Common.{◌≡◌, length}
use Rattle.hack_suspects.specs.InternalWalks.{CountsChoices}
use Rattle.hack_suspects.proofs.choices.choices.Given as goal

abbrev pub invariant-loop-candidate : goal.invariant-loop-candidate
invariant-loop-candidate l = record {
  size : length l.counts.items ≡ l.size;
  counts : CountsChoices l._candidate l.counts.items;
}
