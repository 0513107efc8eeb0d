use Rattle.hack_versions.specs.InternalGrouping.{FitsAt}
use Rattle.hack_versions.proofs.GroupLemmas.{IsBelow}
use Rattle.hack_versions.proofs.group.fitting_places.Given as goal

abbrev pub invariant-loop-place : goal.invariant-loop-place
invariant-loop-place l = IsBelow (FitsAt l.fit l.packages l.version) l.place l.places.items
