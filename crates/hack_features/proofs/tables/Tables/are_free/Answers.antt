use Rattle.std.proofs.Common.{◌≡◌, true, false, vec_len, ap, sym, ◌∙◌, subst, arith}
use Rattle.std.proofs.lemmas.Bool.Decides.{Decides-eqb}
use Rattle.hack_samples.specs.Sets.{rows_of}
use Rattle.hack_features.specs.Tables.{is_lean, is_exclusive, is_required}
use Rattle.hack_routes.proofs.MarkLemmas.{nil_from}
use Rattle.hack_features.proofs.tables.Tables.are_free.Goals.{then-is_empty, else-is_empty}
use Rattle.hack_features.proofs.tables.Tables.are_free.Goals as goal

pub returns-then-is_empty-2 : goal.returns-then-is_empty-2
returns-then-is_empty-2 c = λ yes s.
    let hits = c.args.self.now.hits in
    let serves = c.args.self.now.serves in
    elim c.if-is_empty.branch [
      | then-is_empty w ↦
          let no_hits : vec_len hits ≡ 0 = (Decides-eqb (vec_len hits) 0).0 (sym c.is_empty.ensures ∙ w.if-is_empty.true) in
          let no_serves : vec_len serves ≡ 0 =
          (Decides-eqb (vec_len serves) 0).0 (sym w.is_empty-then-is_empty.ensures ∙ sym w.value-is ∙ c.if-is_empty-2.true) in (
            subst (λ rows. is_lean (rows_of rows) s ≡ true) c.as_slice.ensures.value (c.are_empty.ensures yes s),
            ap (λ rows. is_exclusive (rows_of rows) s) (nil_from hits.items (omega (arith, no_hits, hits.ok.0))),
            ap (λ rows. is_required (rows_of rows) s) (nil_from serves.items (omega (arith, no_serves, serves.ok.0))),
          )
      | else-is_empty w ↦ absurd (let never : false ≡ true = sym w.if-is_empty.false ∙ sym w.value-is ∙ c.if-is_empty-2.true in cc)
    ]
