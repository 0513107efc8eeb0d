use Rattle.std.proofs.Common.{rules}
use Rattle.std.proofs.lemmas.List.Sorted.{All-permutation, answers_always, ranks_by}
use Rattle.std.proofs.lemmas.Result.{on_ok_weaker}
use Rattle.std.specs.Cmp.Lexicographic.{nat_list_cmp_total, slice_cmp}
use Rattle.std.specs.Ordering.{is_lt, nat_cmp}
use Rattle.hack_hunt.specs.Internal.{Rises, key_of}
use Rattle.hack_hunt.proofs.OrderLemmas.{sorted_builds}
use Rattle.hack_hunt.proofs.order.sort_builds.Goals as goal

pub returns-clause-order : goal.returns-clause-order
returns-clause-order c =
    on_ok_weaker c.sort_by.result (λ sorted rise. sorted_builds c.sort_by.new.self.items (All-permutation Rises c.args.builds.now.items c.sort_by.new.self.items c.sort_by.ensures.permutation rise)
    (sorted (λ one other. is_lt (slice_cmp nat_cmp (key_of one) (key_of other))) (ranks_by nat_list_cmp_total key_of) (answers_always _ _ _ (λ f a r g h. search rules)))) c.sort_by.ensures.sorted
