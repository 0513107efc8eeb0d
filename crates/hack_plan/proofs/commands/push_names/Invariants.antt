use Rattle.std.proofs.Common.{◌≡◌, ◌++◌, drop}
use Rattle.hack_base.specs.Names.{names_behind}
use Rattle.hack_features.specs.Feature.{groups_of}
use Rattle.hack_plan.specs.Commands.{candidate_names_at}
use Rattle.hack_plan.proofs.commands.push_names.Given as goal

-- the names so far, followed by those at the positions left, are all names
abbrev pub invariant-loop-position : goal.invariant-loop-position
invariant-loop-position l = names_behind l.names.items ++ candidate_names_at (groups_of l.candidates) (drop l.position-index l.positions) ≡ names_behind l.fn.names.items ++ candidate_names_at (groups_of l.candidates) l.positions
