-- The laws of what a builder in memory answers.
use Rattle.std.specs.Prelude.{List, [], ◌++◌, All, refl}
use Rattle.std.proofs.Common.{◌∙◌, subst}
use Rattle.std.proofs.lemmas.List.Elements.{All-append, All-nil}
use Rattle.hack_conflicts.specs.Runs.{Run}
use Rattle.hack_conflicts.specs.Scripts.{IsAnswer, AreAnswers}
use Rattle.hack_conflicts.specs.declared.scripted.Scripted.{Scripted}

pub answers_none : (a : Scripted) → AreAnswers [] a a
answers_none a = record { same = refl; each = All-nil (λ run. IsAnswer a run.set run.outcome) }

pub answers_more : (runs more : List Run) (a b d : Scripted) → AreAnswers runs a b → AreAnswers more b d → AreAnswers (runs ++ more) a d
answers_more runs more a b d p q = record {
  same = q.same ∙ p.same;
  each = All-append (λ run. IsAnswer a run.set run.outcome) runs more p.each (subst (λ s. All (λ run. IsAnswer s run.set run.outcome) more) p.same q.each);
}
