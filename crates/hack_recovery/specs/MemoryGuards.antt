-- Guards in memory.
use Rattle.std.specs.Prelude.{string_bytes}
use Rattle.hack_recovery.specs.declared.guards.GuardStart.{GuardStart}
use Rattle.hack_recovery.specs.GuardEvents.{GuardAsked}

-- what was asked for, as plain data
abbrev pub start_of : GuardStart → GuardAsked
start_of start = record { folder = string_bytes start.folder; watches = start.watches }
