use Rattle.std.proofs.Common.{string_bytes, map, take}
use Rattle.std.specs.Fmt.{HasWritten, IsPlainFormatter}
use Rattle.hack_process.specs.CommandTexts.{each_spaced}
use Rattle.hack_process.proofs.process.SpacedDisplay.fmt.Given as goal

abbrev pub invariant-loop-word : goal.invariant-loop-word
invariant-loop-word g l =
    IsPlainFormatter l.initial.f → HasWritten g.W.Write.write_str_gives l.initial.f (each_spaced (map string_bytes (take l.word-index l.word-items))) l.f
