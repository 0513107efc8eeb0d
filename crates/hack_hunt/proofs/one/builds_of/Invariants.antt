use Rattle.std.proofs.Common.{All, take}
use Rattle.std.specs.List.{AllZip}
use Rattle.hack_closures.specs.Closures.{IsBuildFor}
use Rattle.hack_closures.specs.View.{alone_in, choice_in, has_all, search_of}
use Rattle.hack_conflicts.specs.Rules.{IsChoice}
use Rattle.hack_conflicts.specs.Sets.{rows_of}
use Rattle.hack_hunt.proofs.one.builds_of.Given as goal

-- what was built for each of the sets so far
abbrev pub invariant-loop-set : goal.invariant-loop-set
invariant-loop-set l = All (IsChoice (search_of l.closures)) (rows_of l.sets)
    → AllZip (IsBuildFor (choice_in l.closures) (alone_in l.closures) (has_all l.closures) (search_of l.closures)) (take l.set-index (rows_of l.sets)) l.builds.items
