use Rattle.std.proofs.Common.{◌≡◌, string_bytes, take}
use Rattle.hack_features.specs.Feature.{groups_of}
use Rattle.hack_report.specs.Conflicts.{build_lines}
use Rattle.hack_report.proofs.conflict_lines.About.lines.Given as goal

-- the lines of the sets so far
abbrev pub invariant-loop-set : goal.invariant-loop-set
invariant-loop-set l = string_bytes l.text ≡ build_lines l.self.plain (groups_of l.self.candidates.now) (take l.set-index l.sets)
