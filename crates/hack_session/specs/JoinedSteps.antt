-- Steps, one after the other: what the laws of runners need.
use Rattle.std.proofs.Common.{◌≡◌, Bool, List, [], ◌∷◌, ◌++◌, sym, ◌∙◌, ap, subst}
use Rattle.hack_term.specs.declared.log_group.LogGroup.{LogGroup}
use Rattle.hack_term.specs.declared.term.Term.{Term}
use Rattle.hack_plan.specs.View.{PlanView}
use Rattle.hack_session.specs.declared.step.Handed.{Handed}
use Rattle.hack_session.specs.StepEffects.{DoesAll, State}
use Rattle.hack_session.specs.StepOutput.{Manner, manner_of}

does-append : (tells : Type 0) (keep_going : Bool) (m : Manner) (plan : PlanView) (steps more : List Handed) (a b c : State) → DoesAll tells keep_going m plan steps a b → DoesAll tells keep_going m plan more b c → DoesAll tells keep_going m plan (steps ++ more) a c
does-append tells keep_going m plan [] more a b c p q = subst (λ (s : State). DoesAll tells keep_going m plan more s c) p q
does-append tells keep_going m plan (h ∷ steps) more a b c p q = (p.0, p.1, does-append tells keep_going m plan steps more p.0 b c p.2 q)

-- steps after others, in the same manner
pub done_more : (tells : Type 0) (keep_going later : Bool) (m l : Manner) (plan : PlanView) (steps more : List Handed) (a b c : State) → keep_going ≡ later → m ≡ l → DoesAll tells keep_going m plan steps a b → DoesAll tells later l plan more b c → DoesAll tells keep_going m plan (steps ++ more) a c
done_more tells keep_going later m l plan steps more a b c e f p q =
    does-append tells keep_going m plan steps more a b c p
    (subst (λ (k : Bool). DoesAll tells k m plan more b c) (sym e) (subst (λ (n : Manner). DoesAll tells later n plan more b c) (sym f) q))

-- a terminal that has changed in its error alone
pub error_alone : (a b c : Term) → b ≡ record a { error = b.error } → c ≡ record b { error = c.error } → c ≡ record a { error = c.error }
error_alone a b c p q = q ∙ ap (λ (t : Term). record t { error = c.error }) p

pub manner_stays : (group other : LogGroup) (a b : Term) → group ≡ other → b ≡ record a { error = b.error } → manner_of group a ≡ manner_of other b
manner_stays group other a b e f = ap (λ (g : LogGroup). manner_of g a) e ∙ sym (ap (λ (t : Term). manner_of other t) f)
