-- Lemmas on groups, and on positions that are banned.
use Rattle.std.proofs.Common.{◌≡◌, ℕ, ◌+◌, ◌<◌, ◌≤◌, List, [], ◌∷◌, ◌++◌, length, get_or, set, take, refl, sym, ◌∙◌, ap, subst, Bool, true, false, inl, inr, ◌↔◌}
use Rattle.std.specs.Prelude.{◌||◌, ◌&&◌}
use Rattle.std.proofs.lemmas.List.Folds.{list_any_more, list_all-append}
use Rattle.hack_samples.specs.Sets.{has, has_one_of, has_each}
use Rattle.hack_samples.specs.Internal.{IsClear}
use Rattle.hack_samples.proofs.SetLemmas.{or-false, or-both, has-past, has-set_same, has-set_cases, has-set_kept}

-- one more position is banned
pub clear-more : (banned s : List Bool) (p : ℕ) → p < length banned → IsClear (set banned p true) s ↔ (IsClear banned s × (has s p ≡ false))
clear-more banned s p lt = (
  λ clear. (λ q h. clear q (has-set_kept banned p q h), clear p (has-set_same banned p lt)),
  λ both q h. elim (has-set_cases banned p q h) [ inl e ↦ subst (λ r. has s r ≡ false) e both.1 | inr w ↦ both.0 q w ],
)

-- a position past the end is banned already
pub clear-past : (banned s : List Bool) (p : ℕ) → length s ≤ p → IsClear banned s ↔ (IsClear banned s × (has s p ≡ false))
clear-past banned s p le = (λ clear. (clear, has-past s p le), λ both. both.0)

-- after one more position of a group is banned: s has none of those so far
pub ban-step : (group : List ℕ) (i p : ℕ) (old banned new s : List Bool) → i < length group → p ≡ get_or group i 0
    → IsClear new s ↔ (IsClear banned s × (has s p ≡ false)) → IsClear banned s ↔ (IsClear old s × (has_one_of s (take i group) ≡ false))
    → IsClear new s ↔ (IsClear old s × (has_one_of s (take (i + 1) group) ≡ false))
ban-step group i p old banned new s lt at one before =
    let more : has_one_of s (take (i + 1) group) ≡ (has_one_of s (take i group) || has s p) =
    list_any_more (has s) group i 0 lt ∙ ap (λ q. has_one_of s (take i group) || has s q) (sym at) in (
      λ clear. let now = one.0 clear in let then' = before.0 now.0 in (then'.0, more ∙ or-both _ _ then'.1 now.1),
      λ both. let parts = or-false _ _ (sym more ∙ both.1) in one.1 (before.1 (both.0, parts.0), parts.1),
    )

and-end : (a b : Bool) → (a && (b && true)) ≡ (a && b)
and-end false b = refl
and-end true true = refl
and-end true false = refl

-- one more group, and more groups
pub each-push : (s : List Bool) (groups : List (List ℕ)) (group : List ℕ) → has_each s (groups ++ group ∷ []) ≡ (has_each s groups && has_one_of s group)
each-push s groups group = list_all-append (has_one_of s) groups (group ∷ []) ∙ and-end (has_each s groups) (has_one_of s group)
