-- Pieces as contracts see them.
use Rattle.std.specs.Prelude.{List, map}
use Rattle.hack_base.specs.Names.{names_of}
use Rattle.hack_manifest.specs.declared.pieces.Piece.{Piece}
use Rattle.hack_manifest.specs.declared.pieces.Pieces.{Pieces}
use Rattle.hack_manifest.specs.Paths.{View}

-- a piece as its bytes and its path's names
abbrev pub piece_view : Piece → View
piece_view p = record { text = p.text.now; path = names_of p.path.items }

-- pieces in their order
abbrev pub slice_view : List Piece → List View
slice_view ps = map piece_view ps

-- the pieces that a text was cut into
abbrev pub pieces_view : Pieces → List View
pieces_view cut = slice_view cut.pieces.items
