use Rattle.std.proofs.Common.{◌++◌, ◌∷◌, [], subst, sym, ◌∙◌}
use Rattle.std.specs.Ordering.{nat_cmp}
use Rattle.hack_sets.specs.Sets.{IsBefore}
use Rattle.hack_sets.proofs.OrderLemmas.{before_trans, Increases, Stand, none_first, same_last, other_last, same_of}
use Rattle.hack_sets.proofs.sets.+compare_sets.Goals as goal

pub returns-in-None-Some-clause-transitive : goal.returns-in-None-Some-clause-transitive
returns-in-None-Some-clause-transitive t c = before_trans c.args.first.now c.args.second.now

pub returns-in-None-Some-clause-order : goal.returns-in-None-Some-clause-order
returns-in-None-Some-clause-order t c =
    let is = c.in-None-Some.ensures'.cases.0 in
    subst (λ l. IsBefore c.args.first.now l) (sym is) (none_first c.in-None-Some.field-0-1.0.now c.args.first.now c.in-None-Some.field-0-1.1.now c.in-None-Some.ensures.cases (subst Increases is c.requires.second))

pub returns-in-Some-None-clause-order : goal.returns-in-Some-None-clause-order
returns-in-Some-None-clause-order t c =
    let is = c.in-Some-None.ensures.cases.0 in
    subst (λ l. IsBefore c.args.second.now l) (sym is) (none_first c.in-Some-None.field-0-0.0.now c.args.second.now c.in-Some-None.field-0-0.1.now c.in-Some-None.ensures'.cases (subst Increases is c.requires.first))

pub returns-in-Equal-clause-order : goal.returns-in-Equal-clause-order
returns-in-Equal-clause-order t c =
    let a = c.in-Some-Some.ensures.cases.0 in
    let b = c.in-Some-Some.ensures'.cases.0 in
    let p = c.in-Some-Some.p.now in
    let q = c.in-Some-Some.q.now in
    subst (λ l. Stand c.compare_sets.result l c.args.second.now) (sym a) (subst (λ l. Stand c.compare_sets.result (c.in-Some-Some.first.now ++ p ∷ []) l) (sym b)
    (same_last c.compare_sets.result p q c.in-Some-Some.first.now c.in-Some-Some.second.now (same_of p q (sym c.cmp.ensures ∙ c.in-Equal.is))
    (subst Increases a c.requires.first) (subst Increases b c.requires.second) c.compare_sets.ensures.order))

pub returns-in-Equal-clause-transitive : goal.returns-in-Equal-clause-transitive
returns-in-Equal-clause-transitive t c = before_trans c.args.first.now c.args.second.now

pub returns-in_default : goal.returns-in_default
returns-in_default t c =
    let a = c.in-Some-Some.ensures.cases.0 in
    let b = c.in-Some-Some.ensures'.cases.0 in
    let p = c.in-Some-Some.p.now in
    let q = c.in-Some-Some.q.now in
    record {
      order =
          subst (λ r. Stand r c.args.first.now c.args.second.now) (sym c.cmp.ensures)
          (subst (λ l. Stand (nat_cmp p q) l c.args.second.now) (sym a) (subst (λ l. Stand (nat_cmp p q) (c.in-Some-Some.first.now ++ p ∷ []) l) (sym b)
          (other_last p q c.in-Some-Some.first.now c.in-Some-Some.second.now (λ e. c.in_default.not-Equal (c.cmp.ensures ∙ e))
          (subst Increases a c.requires.first) (subst Increases b c.requires.second))));
      irreflexive = λ h. h.absent h.present;
      transitive = before_trans c.args.first.now c.args.second.now;
    }
