use Rattle.std.proofs.Common.{◌<◌, ℕ, rules, List, Bool, sym, subst, inl, inr, refl, IfNone, MatchOption}
use Rattle.std.proofs.lemmas.Bool.{false≢true}
use Rattle.hack_conflicts.specs.Sets.{IsWithin}
use Rattle.hack_conflicts.specs.Rules.{IsClosed, IsChoice, size_of}
use Rattle.hack_conflicts.specs.Runs.{runs_in, IsPassed}
use Rattle.hack_conflicts.specs.Internal.{IsGoing, IsFailing, IsPartOfFailing, IsWithout, Clashes, members, told}
use Rattle.hack_conflicts.proofs.RuleLemmas.{without_within, without_closed, without_around}
use Rattle.hack_conflicts.proofs.KnownLemmas.{passed_later, passed_less}
use Rattle.hack_conflicts.proofs.ShrinkLemmas.{required_more, next_part, part_less, lacks_one, fewer_without, if_none, if_some, later_none}
use Rattle.hack_conflicts.proofs.shrink.+try_inside.Goals as goal

pub returns-then-not-is_required-clause-passed : goal.returns-then-not-is_required-clause-passed
returns-then-not-is_required-clause-passed g t c = λ s choice w.
    absurd (false≢true (c.if-not-is_required.ensures.1 (required_more c.args.rules.now s c.args.set.now w choice.required)))

pub try_inside-requires : goal.try_inside-requires
try_inside-requires g t c =
    let r = c.args.rules.now in
    let s : List Bool = c.args.set.now in
    let u : List Bool = c.as_slice-in-Some.result.now in
    let p : ℕ = c.in-Some.p in
    let k = c.args.known.now in
    let clash : Clashes r s c.in-Some.p c.in-Some.q = c.in-Some.ensures in
    let w : IsWithout r p s u = subst (IsWithout r p s) (sym c.as_slice-in-Some.ensures.value) c.in_ok-first.ensures in
    let less : members (size_of r) u < members (size_of r) s = fewer_without r p s u c.requires.order c.requires.closed clash.first w in
    let closed : IsClosed r u = without_closed r p s u w c.requires.order c.requires.closed in
    let (large, part, failing) = c.requires.part in
    let part' : IsPartOfFailing r k u = (large, part_less u s large (without_within r p s u w) part, failing) in
    λ κs lives. (search rules, (search rules, (c.requires.order, (closed, (c.requires.sound, (part', c.requires.going))))))

pub try_choice-requires-clause-next : goal.try_choice-requires-clause-next
try_choice-requires-clause-next g t c =
    let r = c.args.rules.now in
    let k = c.args.known.now in
    let s : List Bool = c.args.set.now in
    let choice : IsChoice r s = record { closed = c.requires.closed; exclusive = c.in_default.ensures; required = c.if-not-is_required.ensures.0 refl } in
    next_part r k s c.requires.part choice
    (λ passed. false≢true (c.if-is_passed.ensures.1 (subst (λ l. IsPassed (runs_in l) s) (sym c.as_slice.ensures.value) passed)))

pub returns-in-Some-found-clause-failing : goal.returns-in-Some-found-clause-failing
returns-in-Some-found-clause-failing g t c = λ large part h.
    let r = c.args.rules.now in
    let s : List Bool = c.args.set.now in
    let u : List Bool = c.as_slice-in-Some.result.now in
    let m = c.try_inside.new.known in
    let w : IsWithout r c.in-Some.p s u = subst (IsWithout r c.in-Some.p s) (sym c.as_slice-in-Some.ensures.value) c.in_ok-first.ensures in
    subst (λ o. MatchOption o (IsFailing r m large) (λ less. IsFailing r m less.items)) c.in-Some-found.is
    (c.in_ok-found.ensures.failing large (part_less u s large (without_within r c.in-Some.p s u w) part) h)

pub try_inside-requires-in-Some : goal.try_inside-requires-in-Some
try_inside-requires-in-Some g t c =
    let r = c.args.rules.now in
    let s : List Bool = c.args.set.now in
    let u : List Bool = c.as_slice-in-Some.result.now in
    let v : List Bool = c.as_slice-in-Some-2.result.now in
    let p : ℕ = c.in-Some.p in
    let q : ℕ = c.in-Some.q in
    let k = c.args.known.now in
    let m = c.try_inside.new.known in
    let clash : Clashes r s c.in-Some.p c.in-Some.q = c.in-Some.ensures in
    let w : IsWithout r p s u = subst (IsWithout r p s) (sym c.as_slice-in-Some.ensures.value) c.in_ok-first.ensures in
    let w' : IsWithout r q s v = subst (IsWithout r q s) (sym c.as_slice-in-Some-2.ensures.value) c.in_ok-second.ensures in
    let less : members (size_of r) v < members (size_of r) s = fewer_without r q s v c.requires.order c.requires.closed clash.second w' in
    let closed : IsClosed r v = without_closed r q s v w' c.requires.order c.requires.closed in
    let (large, part, failing) = c.requires.part in
    let later : IsFailing r m large = subst (λ o. MatchOption o (IsFailing r m large) (λ less. IsFailing r m less.items)) c.in_default-found.is
    (c.in_ok-found.ensures.failing large (part_less u s large (without_within r p s u w) part) failing) in
    let part' : IsPartOfFailing r m v = (large, part_less v s large (without_within r q s v w') part, later) in
    λ κs lives. (search rules, (search rules, (c.requires.order, (closed, (c.in_ok-found.ensures.sound, (part', later.going))))))

pub returns-in_err-last-clause-grows : goal.returns-in_err-last-clause-grows
returns-in_err-last-clause-grows g t c = λ a h. c.in_err-last.ensures.grows a (c.in_ok-found.ensures.grows a h)

pub returns-in-Some-clause-grows : goal.returns-in-Some-clause-grows
returns-in-Some-clause-grows g t c = λ a h. c.in_ok-last.ensures.grows a (c.in_ok-found.ensures.grows a h)

pub returns-in-Some-clause-within : goal.returns-in-Some-clause-within
returns-in-Some-clause-within g t c =
    let r = c.args.rules.now in
    let s : List Bool = c.args.set.now in
    let u : List Bool = c.as_slice-in-Some-2.result.now in
    let w : IsWithout r c.in-Some.q s u = subst (IsWithout r c.in-Some.q s) (sym c.as_slice-in-Some-2.ensures.value) c.in_ok-second.ensures in
    if_some c.in_ok-last.last (λ less. IsWithin less.items u) (λ less. IsWithin less.items s) (λ less h p has. without_within r c.in-Some.q s u w p (h p has)) c.in_ok-last.ensures.within

pub returns-in-Some-clause-failing : goal.returns-in-Some-clause-failing
returns-in-Some-clause-failing g t c = λ large part h.
    let r = c.args.rules.now in
    let s : List Bool = c.args.set.now in
    let u : List Bool = c.as_slice-in-Some.result.now in
    let v : List Bool = c.as_slice-in-Some-2.result.now in
    let m = c.try_inside.new.known in
    let w : IsWithout r c.in-Some.p s u = subst (IsWithout r c.in-Some.p s) (sym c.as_slice-in-Some.ensures.value) c.in_ok-first.ensures in
    let w' : IsWithout r c.in-Some.q s v = subst (IsWithout r c.in-Some.q s) (sym c.as_slice-in-Some-2.ensures.value) c.in_ok-second.ensures in
    let failing : IsFailing r m large = subst (λ o. MatchOption o (IsFailing r m large) (λ less. IsFailing r m less.items)) c.in_default-found.is
    (c.in_ok-found.ensures.failing large (part_less u s large (without_within r c.in-Some.p s u w) part) h) in
    c.in_ok-last.ensures.failing large (part_less v s large (without_within r c.in-Some.q s v w') part) failing

pub returns-in-Some-clause-passed : goal.returns-in-Some-clause-passed
returns-in-Some-clause-passed g t c =
    let r = c.args.rules.now in
    let s : List Bool = c.args.set.now in
    let u : List Bool = c.as_slice-in-Some.result.now in
    let v : List Bool = c.as_slice-in-Some-2.result.now in
    let m = c.try_inside.new.known in
    let l = c.try_inside-in-Some.new.known in
    let clash : Clashes r s c.in-Some.p c.in-Some.q = c.in-Some.ensures in
    let w : IsWithout r c.in-Some.p s u = subst (IsWithout r c.in-Some.p s) (sym c.as_slice-in-Some.ensures.value) c.in_ok-first.ensures in
    let w' : IsWithout r c.in-Some.q s v = subst (IsWithout r c.in-Some.q s) (sym c.as_slice-in-Some-2.ensures.value) c.in_ok-second.ensures in
    let first : (x : List Bool) → IsChoice r x → IsWithin x u → IsPassed (told m) x = subst (λ o. IfNone o ((x : List Bool) → IsChoice r x → IsWithin x u → IsPassed (told m) x)) c.in_default-found.is c.in_ok-found.ensures.passed in
    if_none c.in_ok-last.last ((x : List Bool) → IsChoice r x → IsWithin x v → IsPassed (told l) x) ((x : List Bool) → IsChoice r x → IsWithin x s → IsPassed (told l) x)
    (λ second x choice inside. elim (lacks_one r s x c.in-Some.p c.in-Some.q clash choice inside) [
      | inl lacks ↦ passed_later (told m) (told l) (c.in_ok-last.ensures.grows m (later_none m)).runs x (first x choice (without_around r c.in-Some.p s u w x choice.closed inside lacks))
      | inr lacks ↦ second x choice (without_around r c.in-Some.q s v w' x choice.closed inside lacks)
    ])
    c.in_ok-last.ensures.passed

pub returns-then-is_passed-clause-passed : goal.returns-then-is_passed-clause-passed
returns-then-is_passed-clause-passed g t c = λ s choice w.
    passed_less (told c.args.known.now) s c.args.set.now w (subst (λ l. IsPassed (runs_in l) c.args.set.now) c.as_slice.ensures.value (c.if-is_passed.ensures.0 refl))

pub returns-clause-passed : goal.returns-clause-passed
returns-clause-passed g t c =
    let r = c.args.rules.now in
    let s : List Bool = c.args.set.now in
    let m = c.try_choice.new.known in
    if_none c.in_ok-left.left (IsPassed (told m) s) ((x : List Bool) → IsChoice r x → IsWithin x s → IsPassed (told m) x) (λ passed x choice w. passed_less (told m) x s w passed) c.in_ok-left.ensures.passed

pub returns-in_err-second-clause-ends : goal.returns-in_err-second-clause-ends
returns-in_err-second-clause-ends g t c = let going : IsGoing c.try_inside.new.known = c.in_ok-found.ensures.going c.requires.going in search rules

pub returns-in-Some-clause-going : goal.returns-in-Some-clause-going
returns-in-Some-clause-going g t c = λ h. c.in_ok-last.ensures.going (c.in_ok-found.ensures.going h)
