use Rattle.std.proofs.Common.{◌≡◌, ◌+◌, ◌-◌, ◌/◌, arith, List, Bool, subst, IfNone, inl, inr}
use Rattle.std.proofs.lemmas.Bool.{cases_lt}
use Rattle.hack_conflicts.specs.Sets.{Has}
use Rattle.hack_conflicts.specs.Runs.{Needs}
use Rattle.hack_conflicts.specs.Internal.{told}
use Rattle.hack_conflicts.proofs.KnownLemmas.{needs_later}
use Rattle.hack_conflicts.proofs.ShrinkLemmas.{later_none}
use Rattle.hack_conflicts.proofs.shrink.+shrink_block.Goals as goal

pub returns-then-to-from-eq1-clause-needs : goal.returns-then-to-from-eq1-clause-needs
returns-then-to-from-eq1-clause-needs g t c = λ x from to member.
    let r = c.args.rules.now in
    let s : List Bool = c.args.set.items in
    let m = c.try_block.new.known in
    let same : c.args.from ≡ x = omega (arith, c.if-to-from-eq1.true) in
    let needs : c.args.from + 1 ≡ c.args.to → Has s c.args.from → Needs r (told m) s c.args.from =
    subst (λ v. c.args.from + 1 ≡ c.args.to → Has v c.args.from → Needs r (told m) v c.args.from) c.as_slice.ensures.value
    (subst (λ o. IfNone o (c.args.from + 1 ≡ c.args.to → Has c.as_slice.result.now c.args.from → Needs r (told m) c.as_slice.result.now c.args.from)) c.in_default.is c.in_ok-found.ensures.needs) in
    subst (λ y. Has s y → Needs r (told m) s y) same (needs (omega (arith, c.if-to-from-eq1.true))) member

pub returns-clause-needs : goal.returns-clause-needs
returns-clause-needs g t c = λ x from to member.
    let r = c.args.rules.now in
    let k = c.shrink_block.new.known in
    let m = c.shrink_block-2.new.known in
    let first : List Bool = c.in_ok-first.first.items in
    let both : List Bool = c.in_ok-both.both.items in
    let d = c.in_ok-first.ensures in
    let e = c.in_ok-both.ensures in
    elim (cases_lt x (c.args.from + (c.args.to - c.args.from) / 2)) [
      | inl below ↦ needs_later r (told k) (told m) (e.grows k (later_none k)).runs first both e.within x (d.needs x from below (e.within x member))
      | inr above ↦ e.needs x above to member
    ]
