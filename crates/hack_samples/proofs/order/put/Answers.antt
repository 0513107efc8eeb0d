use Rattle.std.proofs.Common.{◌≡◌, ◌∙◌, sym, ap, subst, ℕ, List, Bool, AllPairs, Contains}
use Rattle.std.specs.List.{insert}
use Rattle.hack_samples.specs.Sets.{rows_of}
use Rattle.hack_samples.specs.Order.{IsMaskBefore}
use Rattle.hack_samples.specs.Internal.{BelongsAt}
use Rattle.hack_samples.proofs.OrderLemmas.{pairs-insert, kept-insert, only-insert, rows-insert}
use Rattle.hack_samples.proofs.order.put.Goals as goal

pub returns-clause-ordered : goal.returns-clause-ordered
returns-clause-ordered c =
    let old : List (List Bool) = rows_of c.args.sets.now.items in
    let place : ℕ = c.in-Some.place in
    let is : rows_of c.insert.new.self.items ≡ insert old place c.args.set.items = ap rows_of c.in_ok-insert.ensures.items ∙ rows-insert c.args.sets.now.items place c.args.set in
    let fits : BelongsAt old c.args.set.items place =
    subst (λ l. BelongsAt (rows_of l) c.args.set.items place) c.as_slice.ensures.value
    (subst (λ s. BelongsAt (rows_of c.as_slice.result.now) s place) c.as_slice-2.ensures.value c.in-Some.ensures) in
    subst (AllPairs IsMaskBefore) (sym is) (pairs-insert IsMaskBefore old place c.args.set.items fits.within c.requires.ordered fits.in_front fits.behind)

pub returns-clause-kept : goal.returns-clause-kept
returns-clause-kept c = λ s h.
    let old : List (List Bool) = rows_of c.args.sets.now.items in
    let place : ℕ = c.in-Some.place in
    let is : rows_of c.insert.new.self.items ≡ insert old place c.args.set.items = ap rows_of c.in_ok-insert.ensures.items ∙ rows-insert c.args.sets.now.items place c.args.set in
    subst (λ l. Contains l s) (sym is) (kept-insert old place c.args.set.items s h)

pub returns-clause-only : goal.returns-clause-only
returns-clause-only c = λ s h.
    let old : List (List Bool) = rows_of c.args.sets.now.items in
    let place : ℕ = c.in-Some.place in
    let is : rows_of c.insert.new.self.items ≡ insert old place c.args.set.items = ap rows_of c.in_ok-insert.ensures.items ∙ rows-insert c.args.sets.now.items place c.args.set in
    only-insert old place c.args.set.items s (subst (λ l. Contains l s) is h)
