use Rattle.hack_private_crates.proofs.OrderLemmas.{insert_key-texts}
use Rattle.hack_private_crates.proofs.members.put_sorted.Goals as goal

pub returns : goal.returns
returns c = rw c.in_ok-insert.ensures.keys (insert_key-texts c.args.set.now.keys c.args.path)
