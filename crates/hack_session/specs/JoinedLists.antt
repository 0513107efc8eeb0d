-- Lists of steps, one after the other: what the laws of a lister need.
use Rattle.std.proofs.Common.{List, [], ◌∷◌, ◌++◌, sym, subst}
use Rattle.std.specs.Prelude.{filter}
use Rattle.std.proofs.lemmas.List.Elements.{filter-append}
use Rattle.hack_plan.specs.View.{PlanView}
use Rattle.hack_session.specs.declared.step.Handed.{Handed}
use Rattle.hack_session.specs.ListLines.{ListsAll, Page, is_sent}

-- steps of a list after others
pub listed_more : (whole : Type 0) (plan : PlanView) (steps more : List Handed) (a b c : Page) → ListsAll whole plan steps a b → ListsAll whole plan more b c → ListsAll whole plan (steps ++ more) a c
listed_more whole plan [] more a b c p q = subst (λ (x : Page). ListsAll whole plan more x c) p q
listed_more whole plan (h ∷ steps) more a b c p q = (p.0, p.1, listed_more whole plan steps more p.0 b c p.2 q)

pub sent_more : {S : Type 0} (plan : PlanView) (steps more : List Handed) (ran : PlanView → List Handed → S → S → Type 0) (a b c : S)
    → ((plan : PlanView) (steps more : List Handed) (a b c : S) → ran plan steps a b → ran plan more b c → ran plan (steps ++ more) a c)
    → ran plan (filter is_sent steps) a b → ran plan (filter is_sent more) b c → ran plan (filter is_sent (steps ++ more)) a c
sent_more plan steps more ran a b c law p q = subst (λ (l : List Handed). ran plan l a c) (sym (filter-append is_sent steps more)) (law plan (filter is_sent steps) (filter is_sent more) a b c p q)
