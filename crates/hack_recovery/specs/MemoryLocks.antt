-- Locks in memory.
use Rattle.std.specs.Prelude.{string_bytes}
use Rattle.hack_recovery.specs.declared.locks.Taken.{Taken}
use Rattle.hack_recovery.specs.LockEvents.{Taking}

-- what was taken, as plain data
abbrev pub taking_of : Taken → Taking
taking_of taken = record { folder = string_bytes taken.folder; holder = taken.holder }
