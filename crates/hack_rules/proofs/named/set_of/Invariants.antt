use Rattle.std.proofs.Common.{◌≡◌, []}
use Rattle.std.specs.Vec.Iter.{into_iter_items}
use Rattle.hack_rules.specs.Internal.{put_all}
use Rattle.hack_rules.proofs.named.set_of.Given as goal

abbrev pub invariant-loop-text : goal.invariant-loop-text
invariant-loop-text l = put_all l.set.keys (into_iter_items l.text-iterator) ≡ put_all [] l.fn.texts.items
