use Rattle.std.proofs.Common.{◌≡◌, ◌+◌, [], ◌∷◌, ◌++◌, length, take, sym, ap, ◌∙◌, arith, string_bytes, append_assoc}
use Rattle.std.specs.List.{join_with_byte}
use Rattle.std.proofs.lemmas.List.{length-take-le}
use Rattle.hack_base.specs.Names.{names_of}
use Rattle.hack_base.proofs.NameLemmas.{names-more, join-push, length-names}
use Rattle.hack_planner.proofs.notes.join_names.Goals as goal
use Rattle.hack_planner.proofs.notes.join_names.Goals.{then-place-gt0+in_ok-push_str, else-place-gt0}

pub loop-place-preserved : goal.loop-place-preserved
loop-place-preserved c =
    let texts = c.args.names.now in
    let before = take c.loop-place.place (names_of texts) in
    let part = c.as_str.result.now in
    let more : take (c.loop-place.place + 1) (names_of texts) ≡ before ++ part ∷ [] =
    names-more texts c.loop-place.place c.index-names-place.result c.loop-place-test.true c.index-names-place.is ∙ ap (λ n. before ++ n ∷ []) (sym c.as_str.ensures.value) in
    let many : length before ≡ c.loop-place.place = length-take-le c.loop-place.place (names_of texts) (omega (arith, length-names texts)) in
    elim c.if-place-gt0.branch [
      | then-place-gt0+in_ok-push_str w ↦
          c.in_ok-push_str-2.ensures.bytes
          ∙ ap (λ s. string_bytes s ++ part) w.text-is
          ∙ ap (λ bs. bs ++ part) (w.in_ok-push_str.ensures.bytes ∙ ap (λ bs. bs ++ 44 ∷ []) c.loop-place.invariant)
          ∙ append_assoc (join_with_byte 44 before) (44 ∷ []) part
          ∙ sym (join-push before part (omega arith))
          ∙ ap (join_with_byte 44) (sym more)
      | else-place-gt0 w ↦
          let none : c.loop-place.place ≡ 0 = omega arith in
          let nothing : before ≡ [] = ap (λ n. take n (names_of texts)) none in
          c.in_ok-push_str-2.ensures.bytes
          ∙ ap (λ s. string_bytes s ++ part) w.text-is
          ∙ ap (λ bs. bs ++ part) (c.loop-place.invariant ∙ ap (join_with_byte 44) nothing)
          ∙ ap (λ l. join_with_byte 44 (l ++ part ∷ [])) (sym nothing)
          ∙ ap (join_with_byte 44) (sym more)
    ]
