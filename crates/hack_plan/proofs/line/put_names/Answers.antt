use Rattle.std.proofs.Common.{◌≡◌, ◌+◌, ◌++◌, ◌∷◌, [], ◌∙◌, ap, map, refl, string_bytes, sym, take}
use Rattle.std.proofs.lemmas.Grind.{put_two}
use Rattle.std.proofs.lemmas.List.{take_more, map-append}
use Rattle.hack_plan.specs.Internal.{before_name, is_still_first, joined_names}
use Rattle.hack_plan.proofs.Shown.{first-append, joined-append}
use Rattle.hack_plan.proofs.line.put_names.Goals as goal

pub loop-name-preserved : goal.loop-name-preserved
loop-name-preserved g c =
    let names = c.args.names.now in
    let i = c.loop-name.name-index in
    let so_far = map string_bytes (take i names) in
    let name = c.as_str.result.now in
    let first = c.args.is_first in
    let more : so_far ++ name ∷ [] ≡ map string_bytes (take (i + 1) names) = ap (λ n. so_far ++ n ∷ []) (c.as_str.ensures.value ∙ ap string_bytes c.name-item.is) ∙ sym (ap (map string_bytes) (take_more names i c.name-item.result c.loop-name-test.true) ∙ map-append string_bytes (take i names) _) in (
      first-append first so_far (name ∷ []) ∙ ap (is_still_first first) more,
      λ p.
          let begun = c.loop-name.invariant.1 p in
          put_two g.W.Write.write_str_gives _ _ _ (joined_names first so_far) (before_name c.loop-name.is_first ++ name) _ begun (c.in_ok-put_name.ensures begun.plain refl) (
          ap (λ b. joined_names first so_far ++ (before_name b ++ name)) c.loop-name.invariant.0 ∙ joined-append first so_far (name ∷ []) ∙ ap (joined_names first) more),
    )
