use Rattle.std.proofs.Common.{string_bytes}
use Rattle.hack_run.proofs.ReasonLemmas.{install_reason, version_reason}
use Rattle.hack_run.proofs.ask.stable_for.Goals as goal

pub returns-in-Ok-clause-reason : goal.returns-in-Ok-clause-reason
returns-in-Ok-clause-reason g c =
    let calls = g.C.Caller.calls in
    version_reason g.C.Caller.tells c.args.term.now.verbose (string_bytes c.args.env.now.rustup) (calls c.args.caller.now) (calls c.install.new.caller) (calls c.stable_version.new.caller) c.stable_version.result c.in-Ok.ensures.ok c.stable_version.ensures.why

pub returns-in-Err-clause-reason : goal.returns-in-Err-clause-reason
returns-in-Err-clause-reason g c =
    let calls = g.C.Caller.calls in
    install_reason g.C.Caller.tells c.args.term.now.verbose (string_bytes c.args.env.now.rustup) (calls c.args.caller.now) (calls c.install.new.caller) c.stable_fault.result c.in-Err.fault c.in-Err.ensures.why c.stable_fault.ensures
