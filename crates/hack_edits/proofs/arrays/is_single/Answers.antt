use Rattle.std.proofs.Common.{◌∙◌, sym, ap, length}
use Rattle.std.specs.Prelude.{◌==◌}
use Rattle.hack_edits.proofs.ArrayLemmas.{length-items}
use Rattle.hack_edits.proofs.arrays.is_single.Goals as goal

pub returns : goal.returns
returns c = ap (λ n. n == 1) (ap length c.as_slice.ensures.value ∙ sym (length-items c.args.items.now.items))
