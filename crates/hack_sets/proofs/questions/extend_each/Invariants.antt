use Rattle.std.proofs.Common.{◌≡◌, ◌++◌, take, true}
use Rattle.hack_sets.specs.Forest.{sets_of}
use Rattle.hack_sets.specs.InternalQuestions.{with_next}
use Rattle.hack_sets.proofs.questions.extend_each.Given as goal

abbrev pub invariant-loop-place : goal.invariant-loop-place
invariant-loop-place l = sets_of l.sets ≡ sets_of l.fn.sets ++ with_next (λ _. true) l.next (take l.place (sets_of l.fn.sets))
