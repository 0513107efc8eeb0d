use Rattle.std.proofs.Common.{◌≡◌, drop}
use Rattle.hack_recovery.specs.FakeSystemView.{settings_of, state_in}
use Rattle.hack_recovery.proofs.system.FakeSystemSystem.variable.Given as goal

abbrev pub invariant-loop-key : goal.invariant-loop-key
invariant-loop-key l =
    state_in l.name (settings_of l.self.variables.items)
    ≡ state_in l.name (settings_of (drop l.key-index l.self.variables.items))
