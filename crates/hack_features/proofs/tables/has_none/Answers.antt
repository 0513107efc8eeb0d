use Rattle.std.proofs.Common.{◌≡◌, ◌++◌, ◌∷◌, [], sym, refl, ◌∙◌, ℕ, List, Bool, true, eqb-true, length}
use Rattle.std.specs.Prelude.{not}
use Rattle.hack_routes.specs.Rows.{bit}
use Rattle.hack_base.proofs.Steps.{all_always}
use Rattle.hack_features.proofs.tables.has_none.Goals as goal

empty_row : (row : List Bool) (q : ℕ) → length row ≡ 0 → not (bit row q) ≡ true
empty_row [] q e = refl
empty_row (b ∷ row) q e = absurd (cc)

pub returns-then-is_empty : goal.returns-then-is_empty
returns-then-is_empty c =
    sym (all_always (λ q. not (bit c.args.row.now q)) (c.args.positions.now ++ c.args.last ∷ [])
    (λ q. empty_row c.args.row.now q (eqb-true (length c.args.row.now) 0 (sym c.is_empty.ensures ∙ c.if-is_empty.true))))
