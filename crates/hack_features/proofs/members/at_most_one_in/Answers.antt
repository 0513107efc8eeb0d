use Rattle.std.proofs.Common.{◌≡◌, ◌++◌, ◌∷◌, [], ◌+◌, ◌≤◌, sym, arith, ℕ, Bool, true, false, refl}
use Rattle.std.specs.Prelude.{nat_le, sum_by}
use Rattle.std.proofs.lemmas.Bool.{leb-true}
use Rattle.std.proofs.lemmas.List.Sums.{sum_by_push}
use Rattle.hack_features.specs.Tables.{count_at}
use Rattle.hack_features.specs.Samples.{positions_of}
use Rattle.hack_features.proofs.MemberLemmas.{sum-next, sum-take}
use Rattle.hack_features.proofs.members.at_most_one_in.Goals as goal

more_than_one : (n : ℕ) (b : Bool) → nat_le n 1 ≡ b → 2 ≤ n → false ≡ nat_le n 1
more_than_one n true e h = absurd (let le : n ≤ 1 = leb-true n 1 e in omega arith)
more_than_one n false e h = sym e

pub returns-then-more-seen : goal.returns-then-more-seen
returns-then-more-seen c =
    let f = count_at c.args.row.now in
    let s = c.args.set.now in
    let k = c.loop-place.place in
    more_than_one (sum_by f (positions_of s ++ c.args.last ∷ [])) _ refl
    (omega (arith, sum_by_push f (positions_of s) c.args.last, sum-next f s k c.loop-place-test.true, sum-take f 0 (k + 1) s, c.loop-place.invariant.0, c.loop-place.invariant.1, c.entry_at-more.ensures, c.if-more-seen.true))

pub loop-place-preserved : goal.loop-place-preserved
loop-place-preserved c =
    let f = count_at c.args.row.now in
    let s = c.args.set.now in
    let k = c.loop-place.place in
    (omega (arith, sum-next f s k c.loop-place-test.true, c.loop-place.invariant.0, c.entry_at-more.ensures), omega (arith, c.loop-place.invariant.1, c.if-more-seen.false))
