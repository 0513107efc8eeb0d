use Rattle.std.proofs.Common.{◌≡◌, ℕ, List, [], ◌∷◌, ◌++◌, ap, ◌∙◌, append_assoc}
use Rattle.hack_process.proofs.words.push_features.Goals as goal

-- one argument is added, and then another
two : (xs ys zs : List (List ℕ)) (a b c : List ℕ) → ys ≡ xs ++ a ∷ [] → zs ≡ ys ++ b ∷ [] → b ≡ c → zs ≡ xs ++ a ∷ c ∷ []
two xs ys zs a b c e f g = f ∙ ap (λ l. l ++ b ∷ []) e ∙ append_assoc xs (a ∷ []) (b ∷ []) ∙ ap (λ w. xs ++ a ∷ w ∷ []) g

pub returns-in_ok-push_word-in-Some-2 : goal.returns-in_ok-push_word-in-Some-2
returns-in_ok-push_word-in-Some-2 c = rw c.in-Some.is (two _ _ _ _ _ _ c.in_ok-push_word-in-Some.ensures c.in_ok-push_word-in-Some-2.ensures c.as_str.ensures.value)
