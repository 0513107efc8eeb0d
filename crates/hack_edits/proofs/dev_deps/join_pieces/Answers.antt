use Rattle.std.proofs.Common.{◌≡◌, ◌⊎◌, ◌++◌, ℕ, List, ap, sym, subst, inl, inr, true, false, ◌∙◌, string_bytes, map}
use Rattle.std.proofs.lemmas.Bool.{false≢true}
use Rattle.toml.specs.View.{table_view}
use Rattle.hack_manifest.specs.PieceView.{piece_view}
use Rattle.hack_edits.specs.Parts.{AreParts}
use Rattle.hack_edits.specs.DevDeps.{IsLeft}
use Rattle.hack_edits.specs.Internal.{IsRecut, AreRecut, AppendsWhatIsLeft}
use Rattle.hack_edits.proofs.LeftLemmas.{parts-more, cuts_arrays-more, cuts_arrays-here}
use Rattle.hack_edits.proofs.dev_deps.join_pieces.Goals.{then-known, else-known}
use Rattle.hack_edits.proofs.dev_deps.join_pieces.Goals as goal

pub loop-piece-preserved : goal.loop-piece-preserved
loop-piece-preserved c =
    let old = table_view c.args.old.now in
    let xs = c.args.pieces.now in
    let i = c.loop-piece.piece-index in
    let x = c.piece-item.result in
    let ps = map piece_view xs in
    let tail = c.args.tail.now in
    let before = string_bytes c.loop-piece.text in
    let left : AppendsWhatIsLeft old (piece_view x) c.in-Some.same before (string_bytes c.push_left.new.text) = rw c.in-Some.is at c.in_ok-same.ensures.left in
    let inside = c.loop-piece-test.true in
    let so_far = c.loop-piece.invariant in
    let both : c.if-known.known ≡ true → (c.loop-piece.known ≡ true) × (c.in-Some.same ≡ true) = λ h. elim c.if-known.branch [
      | then-known w ↦ (w.if-known.true, sym w.known-is ∙ h)
      | else-known w ↦ absurd (false≢true (sym w.if-known.false ∙ sym w.known-is ∙ h))
    ] in
    let either : c.if-known.known ≡ false → (c.loop-piece.known ≡ false) ⊎ (c.in-Some.same ≡ false) = λ h. elim c.if-known.branch [
      | then-known w ↦ inr (sym w.known-is ∙ h)
      | else-known w ↦ inl w.if-known.false
    ] in
    let P : List ℕ → Type 0 = λ t. AreParts (IsLeft old) ps tail t in
    let Q : List ℕ → Type 0 = λ t. AreRecut ps tail t in
    let behind : (more : List ℕ) → string_bytes c.push_left.new.text ++ more ≡ (before ++ left.part) ++ more = λ more. ap (λ t. t ++ more) left.whole in
    record {
      left = λ more rest. subst P (sym (behind more)) (parts-more (IsLeft old) xs i x ps tail before left.part inside c.piece-item.is left.left so_far.left more rest);
      known = λ h more rest. subst Q (sym (behind more)) (parts-more IsRecut xs i x ps tail before left.part inside c.piece-item.is (left.recut (both h).1) (so_far.known (both h).0) more rest);
      unknown = λ h. elim (either h) [
        | inl earlier ↦ so_far.unknown earlier
        | inr here ↦ cuts_arrays-here old xs i x ps inside c.piece-item.is so_far.cuts (left.cut here)
      ];
      cuts = cuts_arrays-more old xs i x ps inside c.piece-item.is so_far.cuts;
    }
