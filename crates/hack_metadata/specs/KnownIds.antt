-- Ids are places of packages.
use Rattle.std.specs.Prelude.{ℕ, Bool, ◌&&◌, List, nat_lt}
use Rattle.std.specs.List.{list_all}
use Rattle.hack_metadata.specs.Records.{NodeDepRecord, Nodes}

-- the packages that a node depends on are among the first n
abbrev pub is_known_node : ℕ → List NodeDepRecord → Bool
is_known_node n deps = list_all (λ d. nat_lt d.pkg n) deps

-- members, nodes and what these depend on are among the first n packages
abbrev pub are_known : ℕ → List ℕ → Nodes → Bool
are_known n members nodes = list_all (λ m. nat_lt m n) members && list_all (λ e. nat_lt e.0 n && is_known_node n e.1) nodes
