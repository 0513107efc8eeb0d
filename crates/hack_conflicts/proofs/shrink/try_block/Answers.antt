use Rattle.std.proofs.Common.{◌≡◌, ◌<◌, ◌≤◌, ◌+◌, ℕ, arith, List, Bool, sym, subst}
use Rattle.hack_conflicts.specs.Sets.{Has, IsWithin}
use Rattle.hack_conflicts.specs.Rules.{IsExclusive, IsChoice}
use Rattle.hack_conflicts.specs.Runs.{IsPassed, Needs}
use Rattle.hack_conflicts.specs.Internal.{IsPart, told}
use Rattle.hack_conflicts.proofs.ShrinkLemmas.{exclusive_less, if_none, if_some}
use Rattle.hack_conflicts.proofs.shrink.try_block.Goals as goal

pub try_inside-requires-clause-part : goal.try_inside-requires-clause-part
try_inside-requires-clause-part g c =
    let s : List Bool = c.args.set.now in
    let u : List Bool = c.in_ok-smaller.smaller.items in
    let (x, from, to, member) = c.if-not-has_any.ensures in
    let part : IsPart u s = record { within = c.in_ok-smaller.ensures.within; member = x; has = member; lacks = c.in_ok-smaller.ensures.lacks x from to } in
    (s, subst (λ v. IsPart v s) (sym c.as_slice.ensures.value) part, c.requires.failing)

pub returns-clause-failing : goal.returns-clause-failing
returns-clause-failing g c =
    let s : List Bool = c.args.set.now in
    let u : List Bool = c.in_ok-smaller.smaller.items in
    let (x, from, to, member) = c.if-not-has_any.ensures in
    let part : IsPart u s = record { within = c.in_ok-smaller.ensures.within; member = x; has = member; lacks = c.in_ok-smaller.ensures.lacks x from to } in
    c.in_ok-left.ensures.failing s (subst (λ v. IsPart v s) (sym c.as_slice.ensures.value) part) c.requires.failing

pub returns-clause-lacks : goal.returns-clause-lacks
returns-clause-lacks g c =
    if_some c.in_ok-left.left (λ less. IsWithin less.items c.as_slice.result.now) (λ less. (x : ℕ) → c.args.from ≤ x → x < c.args.to → ¬ Has less.items x)
    (λ less w x from to has. c.in_ok-smaller.ensures.lacks x from to (subst (λ v. Has v x) c.as_slice.ensures.value (w x has))) c.in_ok-left.ensures.within

pub returns-clause-within : goal.returns-clause-within
returns-clause-within g c =
    if_some c.in_ok-left.left (λ less. IsWithin less.items c.as_slice.result.now) (λ less. IsWithin less.items c.args.set.now)
    (λ less w x has. c.in_ok-smaller.ensures.within x (subst (λ v. Has v x) c.as_slice.ensures.value (w x has))) c.in_ok-left.ensures.within

pub returns-clause-needs : goal.returns-clause-needs
returns-clause-needs g c =
    let r = c.args.rules.now in
    let s : List Bool = c.args.set.now in
    let v : List Bool = c.as_slice.result.now in
    let m = c.try_inside.new.known in
    if_none c.in_ok-left.left ((x : List Bool) → IsChoice r x → IsWithin x v → IsPassed (told m) x) (c.args.from + 1 ≡ c.args.to → Has s c.args.from → Needs r (told m) s c.args.from)
    (λ passed one member x choice inside lacks. passed x choice (subst (IsWithin x) (sym c.as_slice.ensures.value)
    (c.in_ok-smaller.ensures.around x choice.closed inside (λ y from to has. let same : y ≡ c.args.from = omega arith in lacks (subst (Has x) same has)))))
    c.in_ok-left.ensures.passed

pub returns-in_err-left-clause-few : goal.returns-in_err-left-clause-few
returns-in_err-left-clause-few g c = λ plain.
    let r = c.args.rules.now in
    c.in_err-left.ensures.few (subst (IsExclusive r) (sym c.as_slice.ensures.value)
    (exclusive_less r c.in_ok-smaller.smaller.items c.args.set.now c.requires.order plain c.in_ok-smaller.ensures.closed c.in_ok-smaller.ensures.within c.requires.failing.choice.exclusive))

pub returns-clause-few : goal.returns-clause-few
returns-clause-few g c = λ plain.
    let r = c.args.rules.now in
    c.in_ok-left.ensures.few (subst (IsExclusive r) (sym c.as_slice.ensures.value)
    (exclusive_less r c.in_ok-smaller.smaller.items c.args.set.now c.requires.order plain c.in_ok-smaller.ensures.closed c.in_ok-smaller.ensures.within c.requires.failing.choice.exclusive))
