use Rattle.std.proofs.Common.{◌++◌, ℕ, List, ap, subst, ◌∙◌, string_bytes}
use Rattle.toml.specs.View.{table_view}
use Rattle.hack_manifest.specs.PieceView.{piece_view}
use Rattle.hack_edits.specs.Arrays.{IsCutInside}
use Rattle.hack_edits.specs.LeftPieces.{KeepsKey}
use Rattle.hack_edits.proofs.LeftLemmas.{left-cut, recut-cut}
use Rattle.hack_edits.proofs.dev_deps.push_thinned.Goals as goal

pub returns : goal.returns
returns c =
    let old = table_view c.args.old.now in
    let p = piece_view c.args.piece.now in
    let part = string_bytes c.in-Some.part in
    let inside : IsCutInside p.text part = rw c.in-Some.is at c.in_ok-part.ensures in
    let P : List ℕ → Type 0 = λ t. KeepsKey p.text t in
    record {
      part = part;
      whole = c.in_ok-push_str.ensures.bytes ∙ ap (λ t. string_bytes c.args.text.now ++ t) c.as_str.ensures.value;
      left = left-cut old p part c.requires inside;
      recut = λ known. recut-cut old p part c.requires (subst P c.as_str-2.ensures.value (c.in_ok-known.ensures known));
      cut = λ _. c.requires;
    }
