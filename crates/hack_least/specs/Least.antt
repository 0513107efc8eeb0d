-- How many sets are listed at least.
use Rattle.std.specs.Prelude.{◌≤◌, ℕ, List, length}
use Rattle.hack_features.specs.Rules.{Choice, IsListed}
use Rattle.hack_sets.specs.Sets.{IsListing}

-- the listed sets are at least so many
pub record ListsAtLeast (c : Choice) (n least : ℕ) : Type 0 where
  pub sets : List (List ℕ)
  pub listing : IsListing n (IsListed c) sets
  pub enough : least ≤ length sets
