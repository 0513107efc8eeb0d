use Rattle.std.specs.Prelude.{take}
use Rattle.hack_base.specs.Names.{names_of}
use Rattle.hack_base.specs.Streams.{stream_of}
use Rattle.hack_recovery.specs.Telling.{SaysRestored}
use Rattle.hack_recovery.proofs.restore.tell_all.Given as goal

abbrev pub invariant-loop-path : goal.invariant-loop-path
invariant-loop-path g l =
    SaysRestored l.term.coloring l.dir (take l.path-index (names_of l.paths)) (stream_of g.E.Sink l.fn.err) (stream_of g.E.Sink l.err)
