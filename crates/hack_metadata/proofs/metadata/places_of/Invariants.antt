use Rattle.std.proofs.Common.{◌≡◌, take}
use Rattle.hack_metadata.proofs.IdLemmas.{place_from, ids_in}
use Rattle.hack_metadata.specs.Internal.{place_in}
use Rattle.hack_metadata.proofs.metadata.places_of.Given as goal

-- the map has the ids of the packages so far
abbrev pub invariant-loop-index : goal.invariant-loop-index
invariant-loop-index l = place_in l.ids ≡ place_from 0 (take l.index (ids_in l.packages))
