use Rattle.std.proofs.Common.{◌≡◌, ◌∙◌, ◌-◌, ◌+◌, suc, [], length, None, ap, arith, refl, string_bytes, sym}
use Rattle.std.proofs.lemmas.Result.{err_from_is_err_and}
use Rattle.std.specs.Option.{option_map}
use Rattle.hack_files.specs.TraceLaws.{makes_more, makes_none}
use Rattle.hack_places.specs.Folders.{At, Here, Nothing, Out, said_in, workspace_around}
use Rattle.hack_places.proofs.CountLemmas.{grows_then}
use Rattle.hack_places.proofs.FolderLemmas.{after_out, after_silent, or_now, rest_here, rest_none, rest_of, rest_there, step_is, unwrap_now}
use Rattle.hack_places.proofs.LookLemmas.{seen_none, seen_more}
use Rattle.hack_places.proofs.LookedLemmas.{said_first, way_look, way_start, way_up}
use Rattle.hack_places.proofs.workspace.workspace.Goals as goal
use Rattle.hack_places.proofs.workspace.workspace.Goals.{in-Out, in-Nothing}

pub loop-step-init : goal.loop-step-init
loop-step-init g c =
    let held = g.F.Files.bytes_at c.args.files.now in
    let start = c.args.pkg_dir.now in
    let none : length start - 0 ≡ length start = omega arith in
    record {
      utf8 = c.utf8.pkg_dir;
      found = λ t. sym (ap (λ k. rest_of held start None k start) none);
      way = way_start g.F.Files.tells (said_in held start) start (length start) _ refl none;
      counted = λ low. omega (arith, low);
      seen = seen_none g.F.Files _;
      same = λ t q. refl;
      untraced = λ w. makes_none _ _;
    }

pub loop-step-preserved : goal.loop-step-preserved
loop-step-preserved g c =
    let held = g.F.Files.bytes_at c.args.files.now in
    let mid = g.F.Files.bytes_at c.loop-step.files in
    let start = c.args.pkg_dir.now in
    let folder = c.loop-step.folder.now in
    let leaving = option_map (λ k. k.now) c.loop-step.leaving in
    let later = option_map (λ k. k.now) c.match-branch-2.leaving in
    let n = length start - (c.loop-step._step + 1) in
    let more : length start - c.loop-step._step ≡ suc n = omega (arith, c.loop-step-test.true) in
    record {
      utf8 = c.parent-folder.utf8;
      found = elim c.match-branch-2.branch [
        | in-Out w ↦ λ t. step_is (workspace_around held start ≡ rest_of held start later n c.parent-folder.result.now) held mid (workspace_around held start) start folder leaving n _ Out
            more (c.loop-step.invariant.found t) (c.loop-step.invariant.same t) ((rw w.in-Out.is at c.in_ok-said_at.ensures.found) t)
            (after_out held (workspace_around held start) start folder c.parent-folder.result.now leaving later n
            (ap (option_map (λ k. k.now)) (w.leaving-is ∙ w.or-leaving.ensures) ∙ or_now c.loop-step.leaving c.loop-step.folder) c.parent-folder.ensures)
        | in-Nothing w ↦ λ t. step_is (workspace_around held start ≡ rest_of held start later n c.parent-folder.result.now) held mid (workspace_around held start) start folder leaving n _ Nothing
            more (c.loop-step.invariant.found t) (c.loop-step.invariant.same t) ((rw w.in-Nothing.is at c.in_ok-said_at.ensures.found) t)
            (after_silent held (workspace_around held start) start folder c.parent-folder.result.now leaving later n (ap (option_map (λ k. k.now)) w.leaving-is) c.parent-folder.ensures)
      ];
      way = elim c.match-branch-2.branch [
        | in-Out w ↦ way_up g.F.Files.tells (said_in held start) start folder c.parent-folder.result.now n _ more c.parent-folder.ensures
            (λ t. said_first held mid start folder Out (c.loop-step.invariant.same t) ((rw w.in-Out.is at c.in_ok-said_at.ensures.found) t)) c.loop-step.invariant.way
        | in-Nothing w ↦ way_up g.F.Files.tells (said_in held start) start folder c.parent-folder.result.now n _ more c.parent-folder.ensures
            (λ t. said_first held mid start folder Nothing (c.loop-step.invariant.same t) ((rw w.in-Nothing.is at c.in_ok-said_at.ensures.found) t)) c.loop-step.invariant.way
      ];
      counted = grows_then 0 _ _ _ c.loop-step.invariant.counted c.in_ok-said_at.ensures.counted;
      seen = seen_more g.F.Files _ _ _ c.loop-step.invariant.seen c.in_ok-said_at.ensures.seen;
      same = λ t q. c.in_ok-said_at.ensures.same t q ∙ c.loop-step.invariant.same t q;
      untraced = λ w. makes_more [] [] _ _ _ _ _ _ (c.loop-step.invariant.untraced w) (c.in_ok-said_at.ensures.untraced w);
    }

pub returns-in_err-said_at-clause-looked : goal.returns-in_err-said_at-clause-looked
returns-in_err-said_at-clause-looked g c =
    let p = err_from_is_err_and c.from_residual.result c.from_residual.ensures.1 in
    let held = g.F.Files.bytes_at c.args.files.now in
    let start = c.args.pkg_dir.now in
    rw (p.1, p.2) (way_look g.F.Files.tells (said_in held start) start c.loop-step.folder.now (length start - (c.loop-step._step + 1)) _ _ (omega (arith, c.loop-step-test.true))
    c.loop-step.invariant.way c.in_err-said_at.ensures.named)

pub returns-in-Here-clause-found : goal.returns-in-Here-clause-found
returns-in-Here-clause-found g c = λ t.
    let held = g.F.Files.bytes_at c.args.files.now in
    let start = c.args.pkg_dir.now in
    let leaving = option_map (λ k. k.now) c.loop-step.leaving in
    let n = length start - (c.loop-step._step + 1) in
    let more : length start - c.loop-step._step ≡ suc n = omega (arith, c.loop-step-test.true) in
    step_is _ held (g.F.Files.bytes_at c.loop-step.files) (workspace_around held start) start c.loop-step.folder.now leaving n _ Here
    more (c.loop-step.invariant.found t) (c.loop-step.invariant.same t) ((rw c.in-Here.is at c.in_ok-said_at.ensures.found) t)
    (λ said w. c.in_ok-from_str-in-Here.ensures.ok ∙ sym (w ∙ rest_here held start leaving n c.loop-step.folder.now said))

pub returns-in-At-clause-found : goal.returns-in-At-clause-found
returns-in-At-clause-found g c = λ t.
    let held = g.F.Files.bytes_at c.args.files.now in
    let start = c.args.pkg_dir.now in
    let leaving = option_map (λ k. k.now) c.loop-step.leaving in
    let n = length start - (c.loop-step._step + 1) in
    let more : length start - c.loop-step._step ≡ suc n = omega (arith, c.loop-step-test.true) in
    step_is _ held (g.F.Files.bytes_at c.loop-step.files) (workspace_around held start) start c.loop-step.folder.now leaving n _ (At (string_bytes c.in-At.path))
    more (c.loop-step.invariant.found t) (c.loop-step.invariant.same t) ((rw c.in-At.is at c.in_ok-said_at.ensures.found) t)
    (λ said w. (rw c.as_str.ensures.value at c.in_ok-within-in-At.ensures) ∙ sym (w ∙ rest_there held start leaving n c.loop-step.folder.now (string_bytes c.in-At.path) said))

pub returns-clause-found : goal.returns-clause-found
returns-clause-found g c = λ t.
    let held = g.F.Files.bytes_at c.args.files.now in
    let start = c.args.pkg_dir.now in
    let leaving = option_map (λ k. k.now) c.loop-step.leaving in
    let none : length start - c.loop-step._step ≡ 0 = omega (arith, c.loop-step-test.false) in
    c.in_ok-from_str.ensures.ok ∙ ap (λ k. k.now) c.unwrap_or.ensures ∙ unwrap_now c.loop-step.leaving c.args.pkg_dir
    ∙ sym (c.loop-step.invariant.found t ∙ ap (λ k. rest_of held start leaving k c.loop-step.folder.now) none ∙ rest_none held start leaving c.loop-step.folder.now)

pub returns-in-Here-clause-seen : goal.returns-in-Here-clause-seen
returns-in-Here-clause-seen g c = seen_more g.F.Files _ _ _ c.loop-step.invariant.seen c.in_ok-said_at.ensures.seen

pub returns-in-At-clause-seen : goal.returns-in-At-clause-seen
returns-in-At-clause-seen g c = seen_more g.F.Files _ _ _ c.loop-step.invariant.seen c.in_ok-said_at.ensures.seen
