use Rattle.std.proofs.Common.{◌≡◌, take}
use Rattle.std.specs.Option.{option_map}
use Rattle.hack_files.specs.Memory.{held_after}
use Rattle.hack_files.proofs.memory.held_at.Given as goal

abbrev pub invariant-loop-step : goal.invariant-loop-step
invariant-loop-step l = option_map (λ bytes. bytes.now) l.found ≡ held_after (take l.step-index l.steps) l.path
