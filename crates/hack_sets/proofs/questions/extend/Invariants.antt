use Rattle.std.proofs.Common.{◌≡◌, ◌≤◌, ◌+◌, ◌++◌, take, IsTrue}
use Rattle.hack_sets.specs.Forest.{sets_of}
use Rattle.hack_sets.specs.InternalQuestions.{with_next, AreComplete}
use Rattle.hack_sets.proofs.questions.extend.Given as goal

abbrev pub invariant-loop-place : goal.invariant-loop-place
invariant-loop-place g l = record {
  sets : sets_of l.found.sets ≡ sets_of l.fn.found.sets ++ with_next (g.Q.Questions.may l.fn.questions) l.next (take l.place (sets_of l.fn.found.sets));
  complete : (IsTrue l.fn.found.all → AreComplete (g.Q.Questions.whole l.fn.questions) (sets_of l.fn.found.sets)) → IsTrue l.found.all → AreComplete (g.Q.Questions.whole l.fn.questions) (sets_of l.found.sets);
  counted : g.Q.Questions.count l.questions ≤ g.Q.Questions.count l.fn.questions + l.place;
  risen : g.Q.Questions.count l.fn.questions ≤ g.Q.Questions.count l.questions;
  same_choice : g.Q.Questions.choice l.questions ≡ g.Q.Questions.choice l.fn.questions;
  same_size : g.Q.Questions.size l.questions ≡ g.Q.Questions.size l.fn.questions;
  same_may : g.Q.Questions.may l.questions ≡ g.Q.Questions.may l.fn.questions;
  same_whole : g.Q.Questions.whole l.questions ≡ g.Q.Questions.whole l.fn.questions;
}
