use Rattle.std.proofs.Common.{ℕ, [], ◌∷◌, ◌++◌, map, ◌≡◌, refl, append-nil, ap, ◌∙◌, sym, drop}
use Rattle.std.proofs.lemmas.Str.{IsUtf8-drop}
use Rattle.std.proofs.lemmas.List.{map-append}
use Rattle.hack_base.specs.Names.{names_of}
use Rattle.hack_manifest.specs.LineRuns.{IsRun, IsShortest}
use Rattle.hack_manifest.specs.Paths.{View, next_header}
use Rattle.hack_manifest.specs.PieceView.{piece_view}
use Rattle.hack_manifest.proofs.RunLemmas.{IsCharBoundary-lines, texts-last, HavePaths-last, last_header-last}
use Rattle.hack_manifest.proofs.pieces.cut.Goals as goal

pub split_at-requires : goal.split_at-requires
split_at-requires c =
    let first : IsShortest (IsRun c.pieces.rest.now) c.in-Some.n = rw c.in-Some.is at c.in_ok-n.ensures.found in
    IsCharBoundary-lines _ _ c.pieces.invariant.utf8 first.holds.lines

pub pieces-preserved : goal.pieces-preserved
pieces-preserved c =
    let first : IsShortest (IsRun c.pieces.rest.now) c.in-Some.n = rw c.in-Some.is at c.in_ok-n.ensures.found in
    let p : View = record { text = c.split_at.result.0.now; path = names_of c.in_ok-path.path.items } in
    let new : map piece_view c.push.new.self.items ≡ map piece_view c.pieces.found.items ++ p ∷ [] = rw (c.in_ok-push.ensures.items, map-append) in
    let back : c.split_at.result.1.now ≡ drop c.in-Some.n c.pieces.rest.now = c.split_at.ensures.back in
    record {
      utf8 = rw back (IsUtf8-drop _ _ c.pieces.invariant.utf8 (IsCharBoundary-lines _ _ c.pieces.invariant.utf8 first.holds.lines));
      texts = λ more tail h. rw new (texts-last _ _ _ p _ first c.split_at.ensures.front c.pieces.invariant.texts more tail (rw back at h));
      paths = rw new (HavePaths-last [] _ p c.pieces.invariant.paths (rw (← c.pieces.invariant.header) (rw c.deref.ensures.value at c.in_ok-path.ensures)));
      header = rw new ((rw c.deref-in-Some.ensures.value at c.in_ok-header.ensures) ∙ ap (λ h. next_header h p) c.pieces.invariant.header ∙ sym (last_header-last [] (map piece_view c.pieces.found.items) p));
    }

pub returns : goal.returns
returns c =
    let none : (m : ℕ) → IsRun c.pieces.rest.now m → ⊥ = rw c.in_default.is at c.in_ok-n.ensures.none in
    record {
      texts = rw (← append-nil (map (λ (p : View). p.text) (map piece_view c.pieces.found.items))) (c.pieces.invariant.texts [] c.pieces.rest.now (refl, none));
      paths = c.pieces.invariant.paths;
    }
