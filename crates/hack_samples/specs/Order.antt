-- The order of sets.
use Rattle.std.specs.Prelude.{◌≡◌, ◌<◌, ℕ, List, Bool, true, false}
use Rattle.hack_samples.specs.Sets.{has}

-- s is before t: the greatest position that is in only one of them is in t
pub record IsMaskBefore (s t : List Bool) : Type 0 where
  pub greatest : ℕ
  pub absent : has s greatest ≡ false
  pub present : has t greatest ≡ true
  pub above : (p : ℕ) → greatest < p → has s p ≡ has t p
