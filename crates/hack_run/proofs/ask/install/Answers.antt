use Rattle.std.proofs.Common.{true, [], codes, subst, OnErr, OnOk}
use Rattle.std.specs.Prelude.{◌≢◌, IfErr}
use Rattle.hack_process.specs.Commands.{asked_of}
use Rattle.hack_process.specs.Faults.{fault_text}
use Rattle.hack_session.specs.StepCalls.{BreaksInstall, Installs}
use Rattle.hack_session.specs.Toolchains.{addition_of, trial_of}
use Rattle.hack_process.specs.declared.fault.ProcessFault.TheVariants.{Memory}
use Rattle.hack_run.specs.Questions.{CannotInstallStable, FailsStable, InstallsStable, IsInstallReason}
use Rattle.hack_session.proofs.StepLemmas.{quietly_added}
use Rattle.hack_run.proofs.CallLemmas.{failed_calls, installed}
use Rattle.hack_run.proofs.ReasonLemmas.{install_failed}
use Rattle.hack_run.proofs.TraceLemmas.{fails}
use Rattle.hack_run.proofs.ask.install.Goals as goal

-- src/ask.rt:117:1
pub returns-clause-ok : goal.returns-clause-ok
returns-clause-ok g c =
    subst (λ rustup. OnOk c.install_toolchain.result (g.C.Caller.tells → InstallsStable rustup (g.C.Caller.calls c.args.caller.now) (g.C.Caller.calls c.install_toolchain.new.caller))) c.as_str.ensures.value
    (installed g.C.Caller.tells
    (λ calls. Installs [] (asked_of true (trial_of c.as_str.result.now (codes "stable"))) (asked_of true (addition_of c.as_str.result.now (codes "stable") [])) calls)
    (λ calls. BreaksInstall [] (asked_of true (trial_of c.as_str.result.now (codes "stable"))) (asked_of true (addition_of c.as_str.result.now (codes "stable") [])) calls)
    (g.C.Caller.calls c.args.caller.now) (g.C.Caller.calls c.install_toolchain.new.caller) c.install_toolchain.result
    (quietly_added g.C.Caller.tells c.install_toolchain.result (asked_of true (trial_of c.as_str.result.now (codes "stable"))) (asked_of true (addition_of c.as_str.result.now (codes "stable") [])) _ _ _ _ c.install_toolchain.ensures.does))

pub returns-clause-err : goal.returns-clause-err
returns-clause-err g c =
    subst (λ rustup. OnErr c.install_toolchain.result (g.C.Caller.tells → FailsStable rustup (g.C.Caller.calls c.args.caller.now) (g.C.Caller.calls c.install_toolchain.new.caller))) c.as_str.ensures.value
    (fails g.C.Caller.tells
    (λ calls. Installs [] (asked_of true (trial_of c.as_str.result.now (codes "stable"))) (asked_of true (addition_of c.as_str.result.now (codes "stable") [])) calls)
    (λ calls. BreaksInstall [] (asked_of true (trial_of c.as_str.result.now (codes "stable"))) (asked_of true (addition_of c.as_str.result.now (codes "stable") [])) calls)
    (g.C.Caller.calls c.args.caller.now) (g.C.Caller.calls c.install_toolchain.new.caller) c.install_toolchain.result
    (quietly_added g.C.Caller.tells c.install_toolchain.result (asked_of true (trial_of c.as_str.result.now (codes "stable"))) (asked_of true (addition_of c.as_str.result.now (codes "stable") [])) _ _ _ _ c.install_toolchain.ensures.does))

pub returns-clause-vain : goal.returns-clause-vain
returns-clause-vain g c =
    subst (λ rustup. IfErr c.install_toolchain.result (λ fault. fault ≢ Memory → g.C.Caller.tells → CannotInstallStable rustup (g.C.Caller.calls c.args.caller.now) (g.C.Caller.calls c.install_toolchain.new.caller))) c.as_str.ensures.value
    (failed_calls g.C.Caller.tells
    (λ calls. Installs [] (asked_of true (trial_of c.as_str.result.now (codes "stable"))) (asked_of true (addition_of c.as_str.result.now (codes "stable") [])) calls)
    (λ calls. BreaksInstall [] (asked_of true (trial_of c.as_str.result.now (codes "stable"))) (asked_of true (addition_of c.as_str.result.now (codes "stable") [])) calls)
    (g.C.Caller.calls c.args.caller.now) (g.C.Caller.calls c.install_toolchain.new.caller) c.install_toolchain.result
    (quietly_added g.C.Caller.tells c.install_toolchain.result (asked_of true (trial_of c.as_str.result.now (codes "stable"))) (asked_of true (addition_of c.as_str.result.now (codes "stable") [])) _ _ _ _ c.install_toolchain.ensures.does))

pub returns-clause-why : goal.returns-clause-why
returns-clause-why g c =
    subst (λ rustup. IfErr c.install_toolchain.result (λ fault. fault ≢ Memory → g.C.Caller.tells → IsInstallReason rustup (g.C.Caller.calls c.args.caller.now) (g.C.Caller.calls c.install_toolchain.new.caller) (fault_text fault))) c.as_str.ensures.value
    (install_failed g.C.Caller.tells c.as_str.result.now c.as_str-2.result.now c.install_toolchain.result _ _ c.install_toolchain.ensures.does)
