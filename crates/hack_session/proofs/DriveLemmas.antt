-- A session after one more step.
use Rattle.std.proofs.Common.{◌≡◌, List, [], ◌∷◌, ◌++◌, Option, Some, sym, ◌∙◌, ap, subst, append_assoc}
use Rattle.std.specs.Prelude.{IfSome}
use Rattle.hack_plan.specs.View.{PlanView}
use Rattle.hack_session.specs.declared.step.Step.{Step}
use Rattle.hack_session.specs.declared.step.Outcome.{Outcome}
use Rattle.hack_session.specs.declared.step.Handed.{Handed}
use Rattle.hack_session.specs.Histories.{Course, Hands, IsSameCourse, next_of}

pub handed_on : (old new : Course) (step : Step) (outcome : Outcome) → Some step ≡ next_of old → Hands old outcome new → new ≡ record old { handed = old.handed ++ record { step = step; outcome = outcome } ∷ [] }
handed_on old new step outcome e h =
    subst (λ (o : Option Step). IfSome o (λ s. new ≡ record old { handed = old.handed ++ record { step = s; outcome = outcome } ∷ [] })) (sym e) h

-- the session is that of the start, with more steps after its history, which the runner was handed
pub record Driven (S : Type 0) (ran : PlanView → List Handed → S → S → Type 0) (start t : Course) (a b : S) : Type 0 where
  pub same : IsSameCourse t start
  pub more : List Handed
  pub handed : t.handed ≡ start.handed ++ more
  pub ran_them : ran start.plan more a b

pub driven_more : {S : Type 0} (ran : PlanView → List Handed → S → S → Type 0) (start old new : Course) (h : Handed) (a b c : S) (plan : PlanView)
    → ((plan : PlanView) (steps more : List Handed) (a b c : S) → ran plan steps a b → ran plan more b c → ran plan (steps ++ more) a c)
    → new ≡ record old { handed = old.handed ++ h ∷ [] } → plan ≡ old.plan → Driven S ran start old a b → ran plan (h ∷ []) b c → Driven S ran start new a c
driven_more ran start old new h a b c plan law e p d r = record {
  same = record {
    plan = ap (λ (t : Course). t.plan) e ∙ d.same.plan;
    schedule = ap (λ (t : Course). t.schedule) e ∙ d.same.schedule;
    keep_going = ap (λ (t : Course). t.keep_going) e ∙ d.same.keep_going;
  };
  more = d.more ++ h ∷ [];
  handed = ap (λ (t : Course). t.handed) e ∙ ap (λ (l : List Handed). l ++ h ∷ []) d.handed ∙ append_assoc start.handed d.more (h ∷ []);
  ran_them = law start.plan d.more (h ∷ []) a b c d.ran_them (subst (λ (q : PlanView). ran q (h ∷ []) b c) (p ∙ d.same.plan) r);
}
