use Rattle.std.proofs.Common.{List, ◌++◌, ℕ, map, drop}
use Rattle.toml.specs.View.{table_view}
use Rattle.hack_manifest.specs.PieceView.{piece_view}
use Rattle.hack_edits.specs.Parts.{AreParts}
use Rattle.hack_private_crates.specs.PrivateCrates.{IsMade}
use Rattle.hack_base.specs.PathTexts.{parent_of}
use Rattle.hack_base.specs.Names.{names_behind}
use Rattle.hack_private_crates.proofs.private_crates.joined_parts.Given as goal

abbrev pub invariant-loop-piece : goal.invariant-loop-piece
invariant-loop-piece l = (more : List ℕ) → AreParts (IsMade l.choice.some (map parent_of (names_behind l.choice.paths.items)) (table_view l.workspace)) (map piece_view (drop l.piece-index l.pieces)) l.tail more
    → AreParts (IsMade l.choice.some (map parent_of (names_behind l.choice.paths.items)) (table_view l.workspace)) (map piece_view l.pieces) l.tail (l.new.items ++ more)
