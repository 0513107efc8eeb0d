use Rattle.std.proofs.Common.{◌≡◌, ◌∙◌, sym, ap, true, false, rules, tests}
use Rattle.std.proofs.lemmas.Iterator.{YieldsList-from_slice, first_from_find}
use Rattle.std.proofs.lemmas.Option.{MatchOption-at_none, MatchOption-at_some}
use Rattle.std.proofs.lemmas.List.Elements.{All-from_all_within}
use Rattle.std.proofs.lemmas.List.Folds.{list_all-map, list_all_at}
use Rattle.std.proofs.lemmas.List.Sums.{list_all-from_AllPass}
use Rattle.hack_samples.specs.Sets.{has_one_of}
use Rattle.hack_samples.proofs.SetLemmas.{not_both}
use Rattle.hack_samples.proofs.greedy.hold_off.Goals as goal

pub returns-in-Some-clause-off : goal.returns-in-Some-clause-off
returns-in-Some-clause-off c = λ off s size h.
    let rows = c.args.rows.now in
    let set = c.args.set.now in
    let found = MatchOption-at_some _ _ c.in-Some.row c.in-Some.is (first_from_find _ _ c.find.result (λ v. has_one_of set v.items ≡ false) (λ v. has_one_of set v.items ≡ true) c.find.ensures.ran (YieldsList-from_slice rows cc) (λ x q k. search (rules, tests)) (λ x q k. search (rules, tests))) in
    list_all-map (has_one_of s) (λ v. v.items) rows
    ∙ list_all_at (λ v. has_one_of s v.items) rows found.1 c.in-Some.row.now found.2
    (ap (λ v. has_one_of s v.items) (found.3 c.in-Some.row.now) ∙ ap (has_one_of s) (sym c.deref.ensures.value) ∙ ((c.ban.ensures.clear s size).0 h).1)

pub returns-in_default-clause-off : goal.returns-in_default-clause-off
returns-in_default-clause-off c = λ off s size h.
    let rows = c.args.rows.now in
    let set = c.args.set.now in
    let none = MatchOption-at_none _ _ c.in_default.is (first_from_find _ _ c.find.result (λ v. has_one_of set v.items ≡ false) (λ v. has_one_of set v.items ≡ true) c.find.ensures.ran (YieldsList-from_slice rows cc) (λ x q k. search (rules, tests)) (λ x q k. search (rules, tests))) in
    let each = list_all-from_AllPass (λ v. has_one_of set v.items) rows (All-from_all_within (λ v. has_one_of set v.items ≡ true) rows none) in
    absurd (not_both (list_all-map (has_one_of set) (λ v. v.items) rows ∙ each) off)
