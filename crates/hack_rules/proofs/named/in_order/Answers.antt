use Rattle.std.proofs.Common.{rules, ◌≡◌, sym, subst, List, String, map, string_bytes, Global}
use Rattle.hack_rules.proofs.TargetLemmas.{AreRising, keys-rising}
use Rattle.hack_rules.proofs.named.in_order.Goals as goal

pub returns-clause-rising : goal.returns-clause-rising
returns-clause-rising c =
    let all : c.loop-text.texts.items ≡ c.args.set.keys = search rules in
    subst (λ (ts : List (String Global)). AreRising (map string_bytes ts)) (sym all) (keys-rising c.args.set.keys c.into_iter-text-iterator.ensures.into_iter_gives.4)
