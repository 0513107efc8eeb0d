-- The laws of what a tester in memory answers.
use Rattle.std.specs.Prelude.{List, [], ◌++◌, All, refl}
use Rattle.std.proofs.Common.{◌∙◌, subst}
use Rattle.std.proofs.lemmas.List.Elements.{All-append, All-nil}
use Rattle.hack_bisect.specs.Searches.{Trial}
use Rattle.hack_bisect.specs.Scripts.{IsAnswer, AreAnswers}
use Rattle.hack_bisect.specs.declared.scripted.Scripted.{Scripted}

pub answers_none : (a : Scripted) → AreAnswers [] a a
answers_none a = record { same = refl; each = All-nil (λ t. IsAnswer a t.place t.outcome) }

pub answers_more : (trials more : List Trial) (a b d : Scripted) → AreAnswers trials a b → AreAnswers more b d → AreAnswers (trials ++ more) a d
answers_more trials more a b d p q = record {
  same = q.same ∙ p.same;
  each = All-append (λ t. IsAnswer a t.place t.outcome) trials more p.each (subst (λ s. All (λ t. IsAnswer s t.place t.outcome) more) p.same q.each);
}
