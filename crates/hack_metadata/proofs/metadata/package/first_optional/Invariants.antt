use Rattle.std.proofs.Common.{◌≡◌, map, length}
use Rattle.hack_metadata.specs.Optional.{optional_in}
use Rattle.hack_metadata.specs.RecordViews.{dependency_view}
use Rattle.hack_metadata.proofs.metadata.package.first_optional.Given as goal

-- no dependency so far is optional
abbrev pub invariant-loop-left : goal.invariant-loop-left
invariant-loop-left l = optional_in (map dependency_view l.left) ≡ optional_in (map dependency_view l.list)

abbrev pub decreases-loop-left : goal.decreases-loop-left
decreases-loop-left l = length l.left
