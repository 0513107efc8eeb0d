-- References to candidates, and rows of tables.
use Rattle.std.proofs.Common.{◌≡◌, ℕ, zero, suc, ◌≤◌, arith, List, [], ◌∷◌, length, refl, Bool, true}
use Rattle.std.specs.Prelude.{not}
use Rattle.std.proofs.lemmas.List.{length-map}
use Rattle.std.specs.Borrow.{Bor}
use Rattle.hack_features.specs.declared.feature.Feature.{Feature}
use Rattle.hack_features.specs.Feature.{group_of, candidates_of}
use Rattle.hack_routes.specs.Rows.{cell}

-- a table has no entry past its rows
pub past_end : (rows : List (List Bool)) (p q : ℕ) → length rows ≤ p → not (cell rows p q) ≡ true
past_end [] p q h = refl
past_end (row ∷ rows) zero q h = absurd (omega arith)
past_end (row ∷ rows) (suc p) q h = past_end rows p q (omega arith)

pub length-candidates_of : (features : List (Bor Feature)) → length (candidates_of features) ≡ length features
length-candidates_of features = length-map features (λ (f : Bor Feature). group_of f.now)
