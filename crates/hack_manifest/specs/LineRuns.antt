-- How a text is cut: into runs of whole lines that `toml` reads.
use Rattle.std.specs.Prelude.{◌≡◌, ℕ, ◌-◌, ◌<◌, ◌≤◌, ◌⊎◌, Bool, true, false, List, [], ◌∷◌, ◌++◌, length, take, slice_index}
use Rattle.std.specs.Option.{option_map_or}
use Rattle.toml.specs.Data.{Data, table, Members, no_members, member}
use Rattle.toml.specs.Parse.{parse_document}
use Rattle.hack_base.specs.Names.{Name}

-- the names along a tree, taking the first member of each table
abbrev mutual
  pub chain_of_data : Data → List Name
  chain_of_data (table ms) = chain ms
  chain_of_data _ = []

  pub chain : Members → List Name
  chain no_members = []
  chain (member k d ms) = k ∷ chain_of_data d

-- the chain of names in the tree of a text, if there is a tree
abbrev pub chain_at : List ℕ → List Name
chain_at text = option_map_or chain (parse_document text) []

-- there are elements
abbrev pub has_some : {A : Type 0} → List A → Bool
has_some [] = false
has_some (x ∷ xs) = true

-- the text parses alone: `toml` reads it as a document with at least one key
abbrev pub stands : List ℕ → Bool
stands text = has_some (chain_at text)

-- the first n bytes are whole lines, at least one
pub record IsLines (text : List ℕ) (n : ℕ) : Type 0 where
  pub some : 0 < n
  pub within : n ≤ length text
  pub ends : (n ≡ length text) ⊎ (slice_index text (n - 1) ≡ 10)

-- the first n bytes are whole lines that parse alone
pub record IsRun (text : List ℕ) (n : ℕ) : Type 0 where
  pub lines : IsLines text n
  pub reads : stands (take n text) ≡ true

-- n is the least length at which this holds
pub record IsShortest (P : ℕ → Type 0) (n : ℕ) : Type 0 where
  pub holds : P n
  pub shortest : (m : ℕ) → m < n → P m → ⊥

-- the text consists of these pieces, each the shortest run of whole lines that parses alone, and of
-- this tail, which has no such run
abbrev pub IsCutInto : List (List ℕ) → List ℕ → List ℕ → Type 0
IsCutInto [] tail text = (tail ≡ text) × ((m : ℕ) → IsRun text m → ⊥)
IsCutInto (piece ∷ pieces) tail text =
    (rest : List ℕ) × (text ≡ piece ++ rest) × IsShortest (IsRun text) (length piece)
    × IsCutInto pieces tail rest
