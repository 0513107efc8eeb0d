use Rattle.std.proofs.Common.{◌≤◌, length}
use Rattle.hack_features.specs.Rules.{Choice, IsWanted}
use Rattle.hack_sets.specs.Sets.{IsSelection}
use Rattle.hack_features.specs.PlacedView.{IsPlaced}
use Rattle.hack_routes.specs.declared.reach.Edges.TheVariants.{Enabling}
use Rattle.hack_features.proofs.CoverLemmas.{Greedy}
use Rattle.hack_features.proofs.cover.first_cover.Given as goal

abbrev pub invariant-loop-place : goal.invariant-loop-place
invariant-loop-place l = record {
  small : l.place ≤ length l.positions;
  room : l.place ≤ length l.kept.items;
  greedy : (c : Choice) → IsPlaced Enabling c.map c.candidates c.at_least_one_of l.enabled → IsSelection (length c.candidates) l.positions → IsWanted c l.positions → Greedy c l.positions l.place l.kept.items;
}

abbrev pub decreases-loop-place : goal.decreases-loop-place
decreases-loop-place l = l.place
