use Rattle.std.proofs.Common.{map}
use Rattle.hack_metadata.specs.RecordViews.{place_at}
use Rattle.hack_metadata.proofs.IdLemmas.{AreKept}
use Rattle.hack_metadata.proofs.metadata.distinct.Given as goal

abbrev pub invariant-loop-id : goal.invariant-loop-id
invariant-loop-id l = AreKept (map place_at l.ids) l.id-index (map place_at l.kept.items) l.seen
