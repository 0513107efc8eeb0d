use Rattle.std.proofs.Common.{map, string_bytes, []}
use Rattle.hack_lexopt.specs.Parsers.{left_in, start}
use Rattle.hack_rules.specs.UseReading.{Reads}
use Rattle.hack_rules.specs.Uses.{views}
use Rattle.hack_rules.proofs.Shrinks.{weight}
use Rattle.hack_rules.proofs.uses.cut.cut_all.Given as goal

abbrev pub invariant-loop-uses : goal.invariant-loop-uses
invariant-loop-uses l = Reads [] (start (map string_bytes l.fn.words.items)) (views l.uses.items) (left_in l.parser)

abbrev pub decreases-loop-uses : goal.decreases-loop-uses
decreases-loop-uses l = weight (left_in l.parser)
