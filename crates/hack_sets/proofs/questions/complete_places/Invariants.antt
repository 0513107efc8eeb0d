use Rattle.std.proofs.Common.{◌≡◌, ◌<◌, [], length, take, map, get_or, All}
use Rattle.std.specs.Prelude.{filter}
use Rattle.hack_sets.specs.Forest.{sets_of}
use Rattle.hack_sets.specs.Questions.{is_whole}
use Rattle.hack_sets.proofs.questions.complete_places.Given as goal

abbrev pub invariant-loop-place : goal.invariant-loop-place
invariant-loop-place g l = record {
  below : All (λ p. p < length (sets_of l.sets)) l.places.items;
  kept : map (λ p. get_or (sets_of l.sets) p []) l.places.items ≡ filter (is_whole (g.Q.Questions.whole l.questions)) (take l.place (sets_of l.sets));
}
