use Rattle.std.proofs.Common.{◌≡◌, ◌≤◌, ◌+◌, ◌*◌, ℕ, ◌++◌, ◌∷◌, [], List, Bool, cond, length, sym, subst, ap, ◌∙◌, refl, inl, All}
use Rattle.std.proofs.lemmas.List.{length-append}
use Rattle.hack_conflicts.specs.Sets.{Has, rows_of}
use Rattle.hack_conflicts.specs.Rules.{size_of}
use Rattle.hack_conflicts.specs.Internal.{IsSound, members, told, conflicts_of, passing_of}
use Rattle.hack_conflicts.specs.declared.known.Known.{Known}
use Rattle.hack_conflicts.specs.declared.tried.BuildOutcome.TheVariants.{Passed, Failed}
use Rattle.hack_conflicts.proofs.KnownLemmas.{sound_as, grows_as}
use Rattle.hack_conflicts.proofs.ShrinkLemmas.{failing_failed, going_passed}
use Rattle.hack_conflicts.proofs.QueueLemmas.{rows-push, leaves_passed, leaves_conflict}
use Rattle.hack_conflicts.proofs.SearchLemmas.{sound_passing, steady_passing, passed_m, sound_conflict, steady_conflict, grows_conflict, conflict_there, paid_passing, paid_conflict}
use Rattle.hack_conflicts.proofs.search.run_set.Goals as goal

pub returns-in_err-push-clause-sound : goal.returns-in_err-push-clause-sound
returns-in_err-push-clause-sound g c =
    let a = c.ask.new.known in
    let m : Known = record { runs = a.runs; conflicts = a.conflicts; passing = c.push.new.self } in
    sound_as a m refl refl (ap rows_of c.in_err-push.ensures.items) c.args.rules.now c.args.most (c.in_ok-passed.ensures.sound c.args.rules.now c.requires.sound c.requires.next)

pub returns-then-passed-clause-sound : goal.returns-then-passed-clause-sound
returns-then-passed-clause-sound g c =
    let r = c.args.rules.now in
    let k = c.args.known.now in
    let a = c.ask.new.known in
    let s : List Bool = c.args.set.now in
    let m : Known = record { runs = a.runs; conflicts = a.conflicts; passing = c.push.new.self } in
    let e = c.in_ok-passed.ensures in
    let ran : told a ≡ told k ++ record { set = s; outcome = Passed } ∷ [] = subst (λ b. told a ≡ told k ++ record { set = s; outcome = cond b Passed Failed } ∷ []) c.if-passed.true e.told in
    let sound : IsSound r c.args.most a = e.sound r c.requires.sound c.requires.next in
    let more : passing_of m ≡ passing_of a ++ s ∷ [] =
    ap rows_of c.in_ok-push.ensures.items ∙ rows-push a.passing.items c.in_ok-from_slice.field-0 ∙ ap (λ t. passing_of a ++ t ∷ []) c.in_ok-from_slice.ensures.items in
    sound_passing r c.args.most k a m s ran e.same_conflicts e.same_passing c.requires.next c.requires.sound sound refl refl more

pub returns-then-passed-clause-steady : goal.returns-then-passed-clause-steady
returns-then-passed-clause-steady g c =
    let r = c.args.rules.now in
    let k = c.args.known.now in
    let a = c.ask.new.known in
    let s : List Bool = c.args.set.now in
    let m : Known = record { runs = a.runs; conflicts = a.conflicts; passing = c.push.new.self } in
    let e = c.in_ok-passed.ensures in
    let ran : told a ≡ told k ++ record { set = s; outcome = Passed } ∷ [] = subst (λ b. told a ≡ told k ++ record { set = s; outcome = cond b Passed Failed } ∷ []) c.if-passed.true e.told in
    let sound : IsSound r c.args.most a = e.sound r c.requires.sound c.requires.next in
    let more : passing_of m ≡ passing_of a ++ s ∷ [] =
    ap rows_of c.in_ok-push.ensures.items ∙ rows-push a.passing.items c.in_ok-from_slice.field-0 ∙ ap (λ t. passing_of a ++ t ∷ []) c.in_ok-from_slice.ensures.items in
    let n : ℕ = size_of r in
    let one : length m.passing.items ≡ length k.passing.items + 1 = ap length c.in_ok-push.ensures.items ∙ length-append a.passing.items (c.in_ok-from_slice.field-0 ∷ []) ∙ ap (λ v. length v.items + 1) e.same_passing in
    let same : length m.conflicts.items ≡ length k.conflicts.items = ap (λ v. length v.items) e.same_conflicts in
    steady_passing r c.args.most k a m s ran e.same_conflicts e.same_passing c.requires.next c.requires.sound sound refl refl more
    c.requires.steady
    (going_passed k a s ran e.same_conflicts e.same_passing c.requires.steady.going)
    (λ plain. paid_passing (length m.runs.items) (length k.runs.items) (2 * n) (length k.passing.items) (length k.conflicts.items) (length m.passing.items) (length m.conflicts.items) e.few (c.requires.steady.paid plain) one same)

pub returns-then-passed-clause-leaves : goal.returns-then-passed-clause-leaves
returns-then-passed-clause-leaves g c =
    let r = c.args.rules.now in
    let k = c.args.known.now in
    let a = c.ask.new.known in
    let s : List Bool = c.args.set.now in
    let m : Known = record { runs = a.runs; conflicts = a.conflicts; passing = c.push.new.self } in
    let e = c.in_ok-passed.ensures in
    let ran : told a ≡ told k ++ record { set = s; outcome = Passed } ∷ [] = subst (λ b. told a ≡ told k ++ record { set = s; outcome = cond b Passed Failed } ∷ []) c.if-passed.true e.told in
    let sound : IsSound r c.args.most a = e.sound r c.requires.sound c.requires.next in
    let more : passing_of m ≡ passing_of a ++ s ∷ [] =
    ap rows_of c.in_ok-push.ensures.items ∙ rows-push a.passing.items c.in_ok-from_slice.field-0 ∙ ap (λ t. passing_of a ++ t ∷ []) c.in_ok-from_slice.ensures.items in
    leaves_passed r m s (rows_of c.args.next.now.items) (passed_m r c.args.most k a m s ran e.same_conflicts e.same_passing c.requires.next c.requires.sound sound refl refl more)

pub shrink-requires-clause-failing : goal.shrink-requires-clause-failing
shrink-requires-clause-failing g c =
    let r = c.args.rules.now in
    let k = c.args.known.now in
    let a = c.ask.new.known in
    let s : List Bool = c.args.set.now in
    let e = c.in_ok-passed.ensures in
    let ran : told a ≡ told k ++ record { set = s; outcome = Failed } ∷ [] = subst (λ b. told a ≡ told k ++ record { set = s; outcome = cond b Passed Failed } ∷ []) c.if-passed.false e.told in
    failing_failed k a s ran e.same_conflicts e.same_passing r c.requires.next (λ t there. inl (c.requires.steady.blamed t there))

pub returns-in_err-push-2-clause-sound : goal.returns-in_err-push-2-clause-sound
returns-in_err-push-2-clause-sound g c =
    let b = c.shrink.new.known in
    let m : Known = record { runs = b.runs; conflicts = c.push-2.new.self; passing = b.passing } in
    sound_as b m refl (ap rows_of c.in_err-push-2.ensures.items) refl c.args.rules.now c.args.most c.in_ok-conflict.ensures.sound

pub returns-in_err-push-2-clause-grows : goal.returns-in_err-push-2-clause-grows
returns-in_err-push-2-clause-grows g c = λ x h.
    let b = c.shrink.new.known in
    let m : Known = record { runs = b.runs; conflicts = c.push-2.new.self; passing = b.passing } in
    grows_as b m refl (ap rows_of c.in_err-push-2.ensures.items) x (c.in_ok-conflict.ensures.grows x (c.in_ok-passed.ensures.grows x h))

pub returns-clause-sound : goal.returns-clause-sound
returns-clause-sound g c =
    let r = c.args.rules.now in
    let b = c.shrink.new.known in
    let d : List Bool = c.in_ok-conflict.conflict.items in
    let m : Known = record { runs = b.runs; conflicts = c.push-2.new.self; passing = b.passing } in
    let e = c.in_ok-conflict.ensures in
    let more : conflicts_of m ≡ conflicts_of b ++ d ∷ [] = ap rows_of c.in_ok-push-2.ensures.items ∙ rows-push b.conflicts.items c.in_ok-conflict.conflict in
    sound_conflict r c.args.most b m d e.failing e.least e.sound refl more refl

pub returns-clause-grows : goal.returns-clause-grows
returns-clause-grows g c = λ x h.
    let r = c.args.rules.now in
    let b = c.shrink.new.known in
    let d : List Bool = c.in_ok-conflict.conflict.items in
    let m : Known = record { runs = b.runs; conflicts = c.push-2.new.self; passing = b.passing } in
    let e = c.in_ok-conflict.ensures in
    let more : conflicts_of m ≡ conflicts_of b ++ d ∷ [] = ap rows_of c.in_ok-push-2.ensures.items ∙ rows-push b.conflicts.items c.in_ok-conflict.conflict in
    grows_conflict r c.args.most b m d e.failing e.least e.sound refl more refl x (e.grows x (c.in_ok-passed.ensures.grows x h))

pub returns-clause-steady : goal.returns-clause-steady
returns-clause-steady g c =
    let r = c.args.rules.now in
    let b = c.shrink.new.known in
    let d : List Bool = c.in_ok-conflict.conflict.items in
    let m : Known = record { runs = b.runs; conflicts = c.push-2.new.self; passing = b.passing } in
    let e = c.in_ok-conflict.ensures in
    let more : conflicts_of m ≡ conflicts_of b ++ d ∷ [] = ap rows_of c.in_ok-push-2.ensures.items ∙ rows-push b.conflicts.items c.in_ok-conflict.conflict in
    let k = c.args.known.now in
    let a = c.ask.new.known in
    let f = c.in_ok-passed.ensures in
    let n : ℕ = size_of r in
    let s : List Bool = c.args.set.now in
    let large : All (λ t. members n s ≤ members n t) (passing_of b) = subst (λ v. All (λ t. members n s ≤ members n t) (rows_of v.items)) (sym (e.same_passing ∙ f.same_passing)) c.requires.steady.large in
    let same : length m.passing.items ≡ length k.passing.items = ap (λ v. length v.items) (e.same_passing ∙ f.same_passing) in
    let one : length m.conflicts.items ≡ length k.conflicts.items + 1 =
    ap length c.in_ok-push-2.ensures.items ∙ length-append b.conflicts.items (c.in_ok-conflict.conflict ∷ []) ∙ ap (λ v. length v.items + 1) (e.same_conflicts ∙ f.same_conflicts) in
    steady_conflict r c.args.most b m d e.failing e.least e.sound refl more refl (members n s) large
    (λ plain. paid_conflict (length m.runs.items) (length a.runs.items) (length k.runs.items) (2 * n) (length k.passing.items) (length k.conflicts.items) (length m.passing.items) (length m.conflicts.items) (e.few plain) f.few (c.requires.steady.paid plain) same one)

pub returns-clause-leaves : goal.returns-clause-leaves
returns-clause-leaves g c =
    let r = c.args.rules.now in
    let b = c.shrink.new.known in
    let d : List Bool = c.in_ok-conflict.conflict.items in
    let m : Known = record { runs = b.runs; conflicts = c.push-2.new.self; passing = b.passing } in
    let e = c.in_ok-conflict.ensures in
    let more : conflicts_of m ≡ conflicts_of b ++ d ∷ [] = ap rows_of c.in_ok-push-2.ensures.items ∙ rows-push b.conflicts.items c.in_ok-conflict.conflict in
    let avoids = c.in_ok-spread.ensures.avoids in
    leaves_conflict r m c.args.set.now d (rows_of c.spread.new.next.items) (conflict_there r c.args.most b m d e.failing e.least e.sound refl more refl)
    (λ x has. avoids x (subst (λ v. Has v x) (sym c.as_slice.ensures.value) has))
