use Rattle.std.proofs.Common.{◌≡◌, [], take, flat_map, get_or}
use Rattle.hack_samples.specs.Sets.{rows_of}
use Rattle.hack_features.proofs.settings.member_places.Given as goal

abbrev pub invariant-loop-p : goal.invariant-loop-p
invariant-loop-p l = l.places.items ≡ flat_map (λ p. get_or (rows_of l.candidates) p []) (take l.p-index l.set)
