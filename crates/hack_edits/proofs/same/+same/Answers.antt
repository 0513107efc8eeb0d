use Rattle.std.proofs.Common.{sym, arith}
use Rattle.std.proofs.lemmas.Grind.{common_steps}
use Rattle.hack_edits.proofs.TreeLemmas.{same_items-lengths}
use Rattle.hack_edits.proofs.same.+same.Goals as goal

pub same_array-returns-then-len : goal.same_array-returns-then-len
same_array-returns-then-len t c = sym (same_items-lengths c.args.a.now.items c.args.b.now.items (λ e. grind (arith, common_steps)))
