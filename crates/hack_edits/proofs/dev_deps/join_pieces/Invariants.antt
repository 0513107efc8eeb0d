use Rattle.std.proofs.Common.{◌≡◌, List, ◌++◌, ℕ, map, drop, string_bytes, true, false}
use Rattle.toml.specs.View.{table_view}
use Rattle.hack_edits.specs.Parts.{AreParts}
use Rattle.hack_edits.specs.DevDeps.{IsLeft, cuts_arrays}
use Rattle.hack_edits.specs.Internal.{AreRecut}
use Rattle.hack_manifest.specs.PieceView.{piece_view}
use Rattle.hack_edits.proofs.dev_deps.join_pieces.Given as goal

-- what is left of the rest comes after what was joined
abbrev pub invariant-loop-piece : goal.invariant-loop-piece
invariant-loop-piece l = record {
  left : (more : List ℕ) → AreParts (IsLeft (table_view l.old)) (map piece_view (drop l.piece-index l.pieces)) l.tail more
      → AreParts (IsLeft (table_view l.old)) (map piece_view l.pieces) l.tail (string_bytes l.text ++ more);
  known : l.known ≡ true → (more : List ℕ) → AreRecut (map piece_view (drop l.piece-index l.pieces)) l.tail more
      → AreRecut (map piece_view l.pieces) l.tail (string_bytes l.text ++ more);
  unknown : l.known ≡ false → cuts_arrays (table_view l.old) (map piece_view l.pieces) ≡ true;
  cuts : cuts_arrays (table_view l.old) (map piece_view (drop l.piece-index l.pieces)) ≡ true → cuts_arrays (table_view l.old) (map piece_view l.pieces) ≡ true;
}
