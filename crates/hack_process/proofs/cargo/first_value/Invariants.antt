use Rattle.std.proofs.Common.{◌≡◌, length, drop}
use Rattle.std.specs.Str.Lines.{lines}
use Rattle.hack_process.specs.CargoTexts.{first_behind}
use Rattle.hack_process.proofs.cargo.first_value.Given as goal

abbrev pub invariant-loop-line : goal.invariant-loop-line
invariant-loop-line l = first_behind l.name (drop (length l.yielded) (lines l.text)) ≡ first_behind l.name (lines l.text)
