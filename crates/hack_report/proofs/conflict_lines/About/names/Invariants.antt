use Rattle.std.proofs.Common.{◌≡◌, take}
use Rattle.hack_base.specs.Names.{names_of}
use Rattle.hack_features.specs.Feature.{groups_of}
use Rattle.hack_report.specs.Conflicts.{names_at}
use Rattle.hack_report.proofs.conflict_lines.About.names.Given as goal

-- the names at the positions so far
abbrev pub invariant-loop-position : goal.invariant-loop-position
invariant-loop-position l = names_of l.names.items ≡ names_at (groups_of l.self.candidates.now) (take l.position-index l.positions)
