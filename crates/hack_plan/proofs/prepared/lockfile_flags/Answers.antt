use Rattle.std.proofs.Common.{◌∙◌, subst, IfOk}
use Rattle.hack_plan.specs.Internal.{AreFlags}
use Rattle.hack_plan.proofs.prepared.lockfile_flags.Goals as goal

pub returns : goal.returns
returns c =
    subst (λ versions. IfOk c.lockfile_before.result (λ flags. AreFlags c.args.locked versions flags.items))
    (c.as_slice.ensures.value ∙ c.in_ok-versions.ensures) c.lockfile_before.ensures.exact
