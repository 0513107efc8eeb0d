use Rattle.std.proofs.Common.{take}
use Rattle.std.specs.Prelude.{flat_map}
use Rattle.std.specs.Io.KnownBytes.{Appends}
use Rattle.hack_base.specs.Writes.{NoFewer}
use Rattle.hack_powerset_list.proofs.writes.write_texts.Given as goal

abbrev pub invariant-loop-text : goal.invariant-loop-text
invariant-loop-text g l = record {
  written : Appends (g.W.Sink.contents l.fn.out) (g.W.Sink.contents l.out) (flat_map (λ text. text.now) (take l.text-index l.texts));
  count : NoFewer (g.W.Sink.failed l.fn.out) (g.W.Sink.failed l.out);
}
