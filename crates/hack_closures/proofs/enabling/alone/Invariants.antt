use Rattle.std.proofs.Common.{◌∷◌, [], ℕ, ◌<◌, ◌↔◌, Contains}
use Rattle.hack_sets.specs.Sets.{IsSelection}
use Rattle.hack_features.specs.Rules.{IsExclusive}
use Rattle.hack_features.specs.View.{choice_of}
use Rattle.hack_closures.proofs.enabling.alone.Given as goal

abbrev pub invariant-loop-p : goal.invariant-loop-p
invariant-loop-p l = record {
  selection : IsSelection l.p l.alone.items;
  exact : (p : ℕ) → p < l.p → Contains l.alone.items p ↔ IsExclusive (choice_of l.rules) (p ∷ []);
}
