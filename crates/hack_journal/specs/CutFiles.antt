-- What a journal keeps where a write over a file may have been cut.
use Rattle.hack_files.specs.Files.{Contents, Trace}
use Rattle.hack_journal.specs.Recovery.{IsOwn}
use Rattle.hack_journal.specs.Rows.{Spot}
use Rattle.hack_journal.specs.SafeFiles.{AfterEachFront, IsKept}

-- each path holds what it held at first, or the journal keeps that, also where a write over it was cut
abbrev pub IsSafeOrCut : Spot → Contents → Contents → Type 0
IsSafeOrCut = IsKept IsOwn

-- changes were made, and after every front of them the files are safe, also where a write was cut before
abbrev pub StaysSafeOrCut : Spot → Contents → Trace → Trace → Contents → Contents → Type 0
StaysSafeOrCut spot first = AfterEachFront (IsSafeOrCut spot first)
