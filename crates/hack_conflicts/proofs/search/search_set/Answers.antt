use Rattle.std.proofs.Common.{◌≡◌, ◌<◌, ℕ, [], List, Bool, length, get_or, sym, subst, refl}
use Rattle.std.proofs.lemmas.Bool.{false≢true}
use Rattle.hack_conflicts.specs.Sets.{Has, rows_of, HasInside}
use Rattle.hack_conflicts.specs.Rules.{IsChoice}
use Rattle.hack_conflicts.specs.Runs.{runs_in, IsPassed}
use Rattle.hack_conflicts.specs.Internal.{conflicts_of}
use Rattle.hack_conflicts.proofs.SetLemmas.{contains_at}
use Rattle.hack_conflicts.proofs.QueueLemmas.{leaves_none, leaves_passed, leaves_conflict}
use Rattle.hack_conflicts.proofs.SearchLemmas.{next_from}
use Rattle.hack_conflicts.proofs.search.search_set.Goals as goal

pub returns-then-not-is_required-clause-leaves : goal.returns-then-not-is_required-clause-leaves
returns-then-not-is_required-clause-leaves g c =
    leaves_none c.args.rules.now c.args.known.now c.args.set.now (rows_of c.args.next.now.items) (λ h. false≢true (c.if-not-is_required.ensures.1 h))

pub returns-then-is_passed-clause-leaves : goal.returns-then-is_passed-clause-leaves
returns-then-is_passed-clause-leaves g c =
    leaves_passed c.args.rules.now c.args.known.now c.args.set.now (rows_of c.args.next.now.items)
    (subst (λ l. IsPassed (runs_in l) c.args.set.now) c.as_slice.ensures.value (c.if-is_passed.ensures.0 refl))

pub returns-in-Some-first_inside-clause-leaves : goal.returns-in-Some-first_inside-clause-leaves
returns-in-Some-first_inside-clause-leaves g c =
    let k = c.args.known.now in
    let place : ℕ = c.in-Some-first_inside.place in
    let u : List Bool = get_or (conflicts_of k) place [] in
    let v : List Bool = c.set_at.result.now in
    let at : v ≡ u = subst (λ l. v ≡ get_or (rows_of l) place []) c.as_slice-in-Some-first_inside.ensures.value c.set_at.ensures in
    let lt : place < length k.conflicts.items = subst (λ l. place < length l) c.as_slice-2.ensures.value c.in-Some-first_inside.ensures.0 in
    let avoids = c.in_ok-spread.ensures.avoids in
    leaves_conflict c.args.rules.now k c.args.set.now u (rows_of c.spread.new.next.items) (contains_at k.conflicts.items place lt)
    (λ x has. avoids x (subst (λ w. Has w x) (sym at) has))

pub run_set-requires-clause-next : goal.run_set-requires-clause-next
run_set-requires-clause-next g c =
    let r = c.args.rules.now in
    let k = c.args.known.now in
    let s : List Bool = c.args.set.now in
    let choice : IsChoice r s = record { closed = c.requires.closed; exclusive = c.in_default.ensures; required = c.if-not-is_required.ensures.0 refl } in
    next_from r c.args.most k s c.requires.sound c.requires.steady choice
    (λ passed. false≢true (c.if-is_passed.ensures.1 (subst (λ l. IsPassed (runs_in l) s) (sym c.as_slice.ensures.value) passed)))
    (subst (λ l. ¬ HasInside (rows_of l) s) c.as_slice-2.ensures.value c.in_default-first_inside.ensures)
