use Rattle.hack_private_crates.proofs.OrderLemmas.{in_order-rises, in_order-has}
use Rattle.hack_private_crates.proofs.laws.paths_in_order.Goals as goal

pub returns-clause-rising : goal.returns-clause-rising
returns-clause-rising c = in_order-rises

pub returns-clause-given : goal.returns-clause-given
returns-clause-given c = in_order-has
