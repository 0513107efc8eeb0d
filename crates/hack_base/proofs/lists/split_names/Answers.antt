use Rattle.std.proofs.Common.{◌∙◌, ap, nat_lt, length}
use Rattle.std.specs.List.{filter}
use Rattle.std.proofs.lemmas.Iterator.Consumers.{YieldsList-end}
use Rattle.std.proofs.lemmas.Iterator.Splits.{YieldsList-from_str_split}
use Rattle.hack_base.specs.Lists.{separator_of, without_quotes}
use Rattle.hack_base.proofs.ListLemmas.{separator_of-ascii}
use Rattle.hack_base.proofs.lists.split_names.Goals as goal

pub returns : goal.returns
returns c =
    let end = YieldsList-end (YieldsList-from_str_split (separator_of (without_quotes c.args.text.now)) (without_quotes c.args.text.now) (separator_of-ascii (without_quotes c.args.text.now)) (cc) (cc) (cc)) c.loop-name.yielded _ c.loop-name.yielded_by _ _ c.in-None.is c.next.ensures.steps in
    c.loop-name.invariant ∙ ap (filter (λ name. nat_lt 0 (length name))) end.0
