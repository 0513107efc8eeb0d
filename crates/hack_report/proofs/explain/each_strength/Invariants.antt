use Rattle.std.proofs.Common.{◌≡◌, take}
use Rattle.hack_report.specs.Explained.{each_strength}
use Rattle.hack_report.proofs.explain.each_strength.Given as goal

-- those of the strengths so far
abbrev pub invariant-loop-strength : goal.invariant-loop-strength
invariant-loop-strength l = l.each.items ≡ each_strength (take l.strength-index l.strengths)
