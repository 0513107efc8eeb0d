use Rattle.std.proofs.Common.{◌≡◌, ◌++◌, ◌∷◌, [], ◌+◌, ◌≤◌, sym, arith, ℕ, Bool, true, false, refl}
use Rattle.std.specs.Prelude.{nat_le, sum_by}
use Rattle.std.proofs.lemmas.Bool.{leb-true}
use Rattle.std.proofs.lemmas.List.Sums.{sum_by_more, sum_by_push, sum_by-take-le}
use Rattle.hack_features.specs.Tables.{count_at}
use Rattle.hack_features.proofs.tables.has_at_most_one.Goals as goal

more_than_one : (n : ℕ) (b : Bool) → nat_le n 1 ≡ b → 2 ≤ n → false ≡ nat_le n 1
more_than_one n true e h = absurd (let le : n ≤ 1 = leb-true n 1 e in omega arith)
more_than_one n false e h = sym e

pub returns-then-more-seen : goal.returns-then-more-seen
returns-then-more-seen c =
    let f = count_at c.args.row.now in
    let s = c.args.positions.now in
    more_than_one (sum_by f (s ++ c.args.last ∷ [])) _ refl
    (omega (arith, sum_by_push f s c.args.last, sum_by_more f s c.loop-p.p-index 0 c.loop-p-test.true, sum_by-take-le f s (c.loop-p.p-index + 1), c.loop-p.invariant.0, c.loop-p.invariant.1, c.count-more.ensures, c.if-more-seen.true))
