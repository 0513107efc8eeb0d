use Rattle.std.proofs.Common.{◌≡◌, ◌≤◌, ◌+◌, ◌*◌, length, IsTrue, IfSome}
use Rattle.hack_sets.specs.Forest.{sets_of}
use Rattle.hack_sets.specs.InternalQuestions.{AreComplete, AreOpen}
use Rattle.hack_sets.proofs.Permitted.{permitted_below}
use Rattle.hack_sets.proofs.questions.permitted_sets.Given as goal

abbrev pub invariant-loop-next : goal.invariant-loop-next
invariant-loop-next g l = record {
  sets : sets_of l.found.sets ≡ permitted_below (g.Q.Questions.may l.fn.questions) l.next;
  places : IfSome l.limits.most (λ _. AreOpen (g.Q.Questions.may l.fn.questions) (sets_of l.found.sets) l.places.items);
  complete : IsTrue l.found.all → AreComplete (g.Q.Questions.whole l.fn.questions) (sets_of l.found.sets);
  cost : g.Q.Questions.count l.questions ≤ g.Q.Questions.count l.fn.questions + l.next * length (sets_of l.found.sets);
  risen : g.Q.Questions.count l.fn.questions ≤ g.Q.Questions.count l.questions;
  same_choice : g.Q.Questions.choice l.questions ≡ g.Q.Questions.choice l.fn.questions;
  same_size : g.Q.Questions.size l.questions ≡ g.Q.Questions.size l.fn.questions;
  same_may : g.Q.Questions.may l.questions ≡ g.Q.Questions.may l.fn.questions;
  same_whole : g.Q.Questions.whole l.questions ≡ g.Q.Questions.whole l.fn.questions;
}
