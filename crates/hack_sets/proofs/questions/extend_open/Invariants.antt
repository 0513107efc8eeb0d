use Rattle.std.proofs.Common.{◌≡◌, ◌≤◌, ◌+◌, ◌++◌, List, ℕ, take, map, IsTrue}
use Rattle.hack_sets.specs.Forest.{sets_of}
use Rattle.hack_sets.specs.InternalQuestions.{with_next, AreComplete, AreOpen}
use Rattle.hack_sets.proofs.OpenLemmas.{at}
use Rattle.hack_sets.proofs.questions.extend_open.Given as goal

abbrev pub invariant-loop-rank : goal.invariant-loop-rank
invariant-loop-rank g l = record {
  sets : sets_of l.found.sets ≡ sets_of l.fn.found.sets ++ with_next (g.Q.Questions.may l.fn.questions) l.next (take l.rank (map (at (sets_of l.fn.found.sets)) l.fn.places.items));
  kept : (more : List ℕ) × (l.places.items ≡ l.fn.places.items ++ more);
  open_ones : AreOpen (g.Q.Questions.may l.fn.questions) (sets_of l.found.sets) l.places.items;
  complete : (IsTrue l.fn.found.all → AreComplete (g.Q.Questions.whole l.fn.questions) (sets_of l.fn.found.sets)) → IsTrue l.found.all → AreComplete (g.Q.Questions.whole l.fn.questions) (sets_of l.found.sets);
  counted : g.Q.Questions.count l.questions ≤ g.Q.Questions.count l.fn.questions + l.rank;
  risen : g.Q.Questions.count l.fn.questions ≤ g.Q.Questions.count l.questions;
  same_choice : g.Q.Questions.choice l.questions ≡ g.Q.Questions.choice l.fn.questions;
  same_size : g.Q.Questions.size l.questions ≡ g.Q.Questions.size l.fn.questions;
  same_may : g.Q.Questions.may l.questions ≡ g.Q.Questions.may l.fn.questions;
  same_whole : g.Q.Questions.whole l.questions ≡ g.Q.Questions.whole l.fn.questions;
}
