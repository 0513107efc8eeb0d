use Rattle.std.proofs.Common.{◌≡◌, ◌∙◌, ◌-◌, ◌+◌, suc, [], length, None, ap, arith, refl, sym}
use Rattle.std.proofs.lemmas.Result.{err_from_is_err_and}
use Rattle.hack_files.specs.TraceLaws.{makes_more, makes_none}
use Rattle.hack_places.specs.Folders.{package_from, with_manifest}
use Rattle.hack_places.proofs.CountLemmas.{grows_then}
use Rattle.hack_places.proofs.FolderLemmas.{near_above, near_here, near_of, near_step, none_with}
use Rattle.hack_places.proofs.LookLemmas.{seen_none, seen_more}
use Rattle.hack_places.proofs.LookedLemmas.{way_look, way_start, way_up}
use Rattle.hack_places.proofs.workspace.nearest.Goals as goal

pub loop-step-init : goal.loop-step-init
loop-step-init g c =
    let held = g.F.Files.bytes_at c.args.files.now in
    let start = c.args.start.now in
    let none : length start - 0 ≡ length start = omega arith in
    record {
      utf8 = c.utf8.start;
      found = λ t. sym (ap (λ k. near_of held start k start) none);
      way = way_start g.F.Files.tells (with_manifest held) start (length start) _ refl none;
      counted = λ low. omega (arith, low);
      seen = seen_none g.F.Files _;
      same = λ t q. refl;
      untraced = λ w. makes_none _ _;
    }

pub loop-step-preserved : goal.loop-step-preserved
loop-step-preserved g c =
    let held = g.F.Files.bytes_at c.args.files.now in
    let mid = g.F.Files.bytes_at c.loop-step.files in
    let start = c.args.start.now in
    let folder = c.loop-step.folder.now in
    let there = c.in_ok-has_manifest.field-0 in
    let n = length start - (c.loop-step._step + 1) in
    let more : length start - c.loop-step._step ≡ suc n = omega (arith, c.loop-step-test.true) in
    record {
      utf8 = c.parent-folder.utf8;
      found = λ t. near_step (package_from held start ≡ near_of held start n c.parent-folder.result.now) held mid (package_from held start) start folder n _ there
          more (c.loop-step.invariant.found t) (c.loop-step.invariant.same t) (c.in_ok-has_manifest.ensures.found t)
          (λ is w. w ∙ near_above held start n folder (sym c.if-branch.false ∙ is) ∙ sym (ap (near_of held start n) c.parent-folder.ensures));
      way = way_up g.F.Files.tells (with_manifest held) start folder c.parent-folder.result.now n _ more c.parent-folder.ensures
          (λ t. near_step (with_manifest held folder ≡ None) held mid (package_from held start) start folder n _ there
          more (c.loop-step.invariant.found t) (c.loop-step.invariant.same t) (c.in_ok-has_manifest.ensures.found t)
          (λ is w. none_with held folder (sym c.if-branch.false ∙ is))) c.loop-step.invariant.way;
      counted = grows_then 0 _ _ _ c.loop-step.invariant.counted c.in_ok-has_manifest.ensures.counted;
      seen = seen_more g.F.Files _ _ _ c.loop-step.invariant.seen c.in_ok-has_manifest.ensures.seen;
      same = λ t q. c.in_ok-has_manifest.ensures.same t q ∙ c.loop-step.invariant.same t q;
      untraced = λ w. makes_more [] [] _ _ _ _ _ _ (c.loop-step.invariant.untraced w) (c.in_ok-has_manifest.ensures.untraced w);
    }

pub returns-in_err-has_manifest-clause-looked : goal.returns-in_err-has_manifest-clause-looked
returns-in_err-has_manifest-clause-looked g c =
    let p = err_from_is_err_and c.from_residual.result c.from_residual.ensures.1 in
    let start = c.args.start.now in
    rw (p.1, p.2) (way_look g.F.Files.tells (with_manifest (g.F.Files.bytes_at c.args.files.now)) start c.loop-step.folder.now (length start - (c.loop-step._step + 1)) _ _ (omega (arith, c.loop-step-test.true))
    c.loop-step.invariant.way c.in_err-has_manifest.ensures.named)

pub returns-then-branch-clause-found : goal.returns-then-branch-clause-found
returns-then-branch-clause-found g c = λ t.
    let held = g.F.Files.bytes_at c.args.files.now in
    let start = c.args.start.now in
    let n = length start - (c.loop-step._step + 1) in
    let more : length start - c.loop-step._step ≡ suc n = omega (arith, c.loop-step-test.true) in
    near_step _ held (g.F.Files.bytes_at c.loop-step.files) (package_from held start) start c.loop-step.folder.now n _ c.in_ok-has_manifest.field-0
    more (c.loop-step.invariant.found t) (c.loop-step.invariant.same t) (c.in_ok-has_manifest.ensures.found t)
    (λ is w. c.in_ok-from_str.ensures.ok ∙ sym (w ∙ near_here held start n c.loop-step.folder.now (sym c.if-branch.true ∙ is)))
