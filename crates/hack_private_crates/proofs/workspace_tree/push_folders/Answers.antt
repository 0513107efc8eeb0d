use Rattle.std.proofs.Common.{◌∙◌}
use Rattle.hack_private_crates.proofs.PrivateLemmas.{folders-more}
use Rattle.hack_private_crates.proofs.workspace_tree.push_folders.Goals as goal

pub loop-path-preserved : goal.loop-path-preserved
loop-path-preserved c =
    rw c.in_ok-push.ensures.items (folders-more c.args.paths.now c.loop-path.path-index _ c.in_ok-folder.folder c.loop-path.all.items _ c.loop-path-test.true (c.in_ok-folder.ensures.ok ∙ c.parent.ensures) c.loop-path.invariant)
