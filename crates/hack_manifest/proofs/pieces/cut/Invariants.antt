use Rattle.std.proofs.Common.{◌≡◌, ℕ, List, [], ◌++◌, map, length}
use Rattle.std.specs.Prelude.{IsUtf8}
use Rattle.hack_base.specs.Names.{names_of}
use Rattle.hack_manifest.specs.LineRuns.{IsCutInto}
use Rattle.hack_manifest.specs.Paths.{HavePaths}
use Rattle.hack_manifest.proofs.RunLemmas.{last_header}
use Rattle.hack_manifest.specs.PieceView.{piece_view}
use Rattle.hack_manifest.proofs.pieces.cut.Given as goal

-- the pieces of the rest come after those found
abbrev pub invariant-pieces : goal.invariant-pieces
invariant-pieces l = record {
  utf8 : IsUtf8 l.rest;
  texts : (more : List (List ℕ)) (tail : List ℕ) → IsCutInto more tail l.rest → IsCutInto (map (λ p. p.text) (map piece_view l.found.items) ++ more) tail l.text;
  paths : HavePaths [] (map piece_view l.found.items);
  header : names_of l.header.items ≡ last_header [] (map piece_view l.found.items);
}

abbrev pub decreases-pieces : goal.decreases-pieces
decreases-pieces l = length l.rest
