use Rattle.std.proofs.Common.{◌≡◌, ◌++◌, ap, ◌∙◌, map}
use Rattle.toml.specs.View.{table_view}
use Rattle.hack_base.specs.PathTexts.{parent_of}
use Rattle.hack_base.specs.Names.{names_behind}
use Rattle.hack_manifest.specs.PieceView.{piece_view}
use Rattle.hack_private_crates.specs.PrivateCrates.{IsMade}
use Rattle.hack_edits.proofs.LeftLemmas.{parts-more}
use Rattle.hack_private_crates.proofs.private_crates.joined_parts.Goals as goal

pub loop-piece-preserved : goal.loop-piece-preserved
loop-piece-preserved c =
    let ts = map parent_of (names_behind c.args.choice.now.paths.items) in
    let ws = table_view c.args.workspace.now in
    let takes = c.args.choice.now.some in
    let xs = c.args.pieces.now in
    let made : IsMade takes ts ws (piece_view c.piece-item.result) c.in-Some.part.items = rw c.in-Some.is at c.in_ok-part.ensures in
    let text : c.extend_from_slice.new.self.items ≡ c.loop-piece.new.items ++ c.in-Some.part.items = c.in_ok-extend_from_slice-in-Some.ensures.items ∙ ap (λ t. c.loop-piece.new.items ++ t) c.as_slice.ensures.value in
    λ more rest. rw text (parts-more (IsMade takes ts ws) xs c.loop-piece.piece-index c.piece-item.result (map piece_view xs) c.args.tail.now c.loop-piece.new.items c.in-Some.part.items c.loop-piece-test.true c.piece-item.is made c.loop-piece.invariant more rest)
