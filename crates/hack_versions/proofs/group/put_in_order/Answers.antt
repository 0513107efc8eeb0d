use Rattle.std.proofs.lemmas.List.Filters.{dedup_is}
use Rattle.std.proofs.lemmas.List.Sorted.{Contains-permutation, IsPermutation-sym}
use Rattle.hack_versions.proofs.CmpLemmas.{rising-sorted, deduped}
use Rattle.hack_versions.proofs.group.put_in_order.Goals as goal

pub returns-clause-rising : goal.returns-clause-rising
returns-clause-rising c = rw (dedup_is _ _ _ c.dedup.ensures.filtered) (rising-sorted _ c.sort_unstable.ensures.sorted)

pub returns-clause-exact : goal.returns-clause-exact
returns-clause-exact c = λ v.
    let is = dedup_is _ _ _ c.dedup.ensures.filtered in
    let moved = c.sort_unstable.ensures.permutation in (
      λ k. Contains-permutation _ _ v (IsPermutation-sym _ _ moved) ((deduped _ v).0 (rw is at k)),
      λ k. rw is ((deduped _ v).1 (Contains-permutation _ _ v moved k)),
    )
