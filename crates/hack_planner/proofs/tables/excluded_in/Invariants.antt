use Rattle.std.proofs.Common.{◌≡◌, drop}
use Rattle.std.specs.List.{find}
use Rattle.hack_base.specs.Names.{names_of}
use Rattle.hack_planner.specs.RulesFor.{is_excluded}
use Rattle.hack_planner.proofs.tables.excluded_in.Given as goal

-- no name so far is excluded
abbrev pub invariant-loop-name : goal.invariant-loop-name
invariant-loop-name l = find (is_excluded (names_of l.given) (names_of l.excluded)) (names_of (drop l.name-index l.names)) ≡ find (is_excluded (names_of l.given) (names_of l.excluded)) (names_of l.names)
