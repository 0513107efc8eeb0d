use Rattle.std.proofs.Common.{◌≡◌, ◌∙◌, sym, ap, subst, ℕ, List, AllPairs, Contains}
use Rattle.std.specs.List.{insert}
use Rattle.hack_samples.specs.Sets.{rows_of}
use Rattle.hack_suspects.specs.Suspects.{IsPatternBefore}
use Rattle.hack_suspects.specs.InternalWalks.{PatternFits}
use Rattle.hack_samples.specs.declared.sets.Setting.{Setting}
use Rattle.hack_samples.proofs.OrderLemmas.{pairs-insert, kept-insert, only-insert, rows-insert}
use Rattle.hack_suspects.proofs.patterns.put.Goals as goal

pub returns-clause-ordered : goal.returns-clause-ordered
returns-clause-ordered c =
    let old : List (List Setting) = rows_of c.args.found.now.items in
    let place : ℕ = c.in-Some.place in
    let is : rows_of c.insert.new.self.items ≡ insert old place c.args.pattern.items = ap rows_of c.in_ok-insert.ensures.items ∙ rows-insert c.args.found.now.items place c.args.pattern in
    let fits : PatternFits old c.args.pattern.items place =
    subst (λ l. PatternFits (rows_of l) c.args.pattern.items place) c.as_slice.ensures.value
    (subst (λ s. PatternFits (rows_of c.as_slice.result.now) s place) c.as_slice-2.ensures.value c.in-Some.ensures) in
    subst (AllPairs IsPatternBefore) (sym is) (pairs-insert IsPatternBefore old place c.args.pattern.items fits.within c.requires fits.in_front fits.later)

pub returns-clause-kept : goal.returns-clause-kept
returns-clause-kept c = λ p h.
    let old : List (List Setting) = rows_of c.args.found.now.items in
    let place : ℕ = c.in-Some.place in
    let is : rows_of c.insert.new.self.items ≡ insert old place c.args.pattern.items = ap rows_of c.in_ok-insert.ensures.items ∙ rows-insert c.args.found.now.items place c.args.pattern in
    subst (λ l. Contains l p) (sym is) (kept-insert old place c.args.pattern.items p h)

pub returns-clause-only : goal.returns-clause-only
returns-clause-only c = λ p h.
    let old : List (List Setting) = rows_of c.args.found.now.items in
    let place : ℕ = c.in-Some.place in
    let is : rows_of c.insert.new.self.items ≡ insert old place c.args.pattern.items = ap rows_of c.in_ok-insert.ensures.items ∙ rows-insert c.args.found.now.items place c.args.pattern in
    only-insert old place c.args.pattern.items p (subst (λ l. Contains l p) is h)
