use Rattle.std.specs.Map.{keys_of}
use Rattle.serde_json.specs.View.{members_view}
use Rattle.hack_metadata.specs.MetadataReading.{features_of}
use Rattle.hack_metadata.proofs.FeatureLemmas.{Turns}
use Rattle.hack_metadata.proofs.metadata.package.features_from.Given as goal

abbrev pub invariant-loop-name : goal.invariant-loop-name
invariant-loop-name l = Turns l.features l.name-iterator (keys_of l.fn.object.entries) (features_of (members_view l.fn.object.entries))
