use Rattle.std.proofs.Common.{◌≡◌, ◌∙◌, ℕ, List, ◌+◌, ◌++◌, ◌∷◌, [], sym, ap, arith}
use Rattle.std.specs.List.{slice_index_or}
use Rattle.std.proofs.lemmas.List.FromFn.{map-range_with_len_more}
use Rattle.hack_sets.specs.Sets.{singles}
use Rattle.hack_sets.proofs.forest.FeatureSets.singles.Goals as goal

-- one more position alone
more : (sets new : List (List ℕ)) (n : ℕ) → sets ≡ [] ∷ singles n
    → new ≡ sets ++ (slice_index_or sets 0 [] ++ n ∷ []) ∷ [] → new ≡ [] ∷ singles (n + 1)
more sets new n is pushed =
    pushed
    ∙ ap (λ t. t ++ (slice_index_or t 0 [] ++ n ∷ []) ∷ []) is
    ∙ ap (λ t. [] ∷ t) (sym (map-range_with_len_more (λ (p : ℕ). p ∷ []) 0 n n (omega arith)))

pub loop-position-preserved : goal.loop-position-preserved
loop-position-preserved c = more _ _ c.loop-position.position c.loop-position.invariant c.in_ok-push.ensures
