-- What the private functions on arrays promise each other.
use Rattle.std.specs.Prelude.{◌≡◌, ℕ, ◌-◌, ◌≤◌, ◌<◌, true, List, ◌++◌, All, length, take, drop, slice_index}
use Rattle.hack_edits.specs.Arrays.{IsThinned, IsWithComma, is_element, joined}

-- the comma at a place follows an element that begins at another place
pub record IsCommaBehind (inside : List ℕ) (from at : ℕ) : Type 0 where
  pub above : from ≤ at
  pub within : at < length inside
  pub comma : slice_index inside at ≡ 44
  pub element : is_element (take (at - from) (drop from inside)) ≡ true

-- these bytes are kept of the elements with their commas up to the place
pub record KeepsSome (inside : List ℕ) (from : ℕ) (bytes : List ℕ) : Type 0 where
  pub elements : List (List ℕ)
  pub kept : List (List ℕ)
  pub split : inside ≡ joined elements ++ drop from inside
  pub single : All IsWithComma elements
  pub some : IsThinned elements kept
  pub is : bytes ≡ joined kept
