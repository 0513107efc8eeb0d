use Rattle.std.proofs.Common.{◌≡◌, ◌<◌, ◌≤◌, ◌-◌, ◌^◌, min, ℕ, suc, length, get_or}
use Rattle.hack_suspects.specs.Suspects.{choices}
use Rattle.hack_suspects.specs.InternalWalks.{CountsChoices}
use Rattle.hack_suspects.proofs.choices.add_candidate.Given as goal

abbrev pub invariant-loop-place : goal.invariant-loop-place
invariant-loop-place l = record {
  size : length l.counts.items ≡ length l.fn.counts.items;
  later : (k d : ℕ) → l.place ≤ k → get_or l.counts.items k d ≡ get_or l.fn.counts.items k d;
  fewer : (n : ℕ) → CountsChoices n l.fn.counts.items → l.place ≤ length l.fn.counts.items → l.fewer ≡ min (choices n l.place) (2 ^ 128 - 1);
  done : (n : ℕ) → CountsChoices n l.fn.counts.items → (k d : ℕ) → k < l.place → get_or l.counts.items k d ≡ min (choices (suc n) (suc k)) (2 ^ 128 - 1);
}
