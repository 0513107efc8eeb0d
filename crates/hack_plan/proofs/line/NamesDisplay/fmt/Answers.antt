use Rattle.std.proofs.Common.{◌≡◌, ◌+◌, ◌++◌, ◌∙◌, ap, map, refl, string_bytes, take, true}
use Rattle.std.proofs.lemmas.Grind.{put_two}
use Rattle.hack_features.specs.Feature.{groups_of}
use Rattle.hack_plan.specs.Commands.{candidate_names_at}
use Rattle.hack_plan.specs.Internal.{is_still_first, joined_names}
use Rattle.hack_plan.proofs.Shown.{first-append, joined-append, names-more, still-first}
use Rattle.hack_plan.proofs.line.NamesDisplay.fmt.Goals as goal

pub loop-position-preserved : goal.loop-position-preserved
loop-position-preserved g c =
    let features = map string_bytes c.args.self.now.features.now in
    let groups = groups_of c.args.self.now.candidates.now in
    let set = c.args.self.now.set.now in
    let i = c.loop-position.position-index in
    let so_far = features ++ candidate_names_at groups (take i set) in
    let names = map string_bytes c.names_of-names.result.now in
    let more : so_far ++ names ≡ features ++ candidate_names_at groups (take (i + 1) set) = ap (λ l. so_far ++ l) c.names_of-names.ensures ∙ names-more features groups set i 0 c.loop-position-test.true in (
      still-first string_bytes c.loop-position.is_first c.names_of-names.result.now _ c.is_empty-is_first-in-loop-position.ensures
          ∙ ap (λ first. is_still_first first names) c.loop-position.invariant.0 ∙ first-append true so_far names ∙ ap (is_still_first true) more,
      λ p.
          let begun = c.loop-position.invariant.1 p in
          put_two g.W.Write.write_str_gives _ _ _ (joined_names true so_far) (joined_names c.loop-position.is_first names) _ begun (c.in_ok-put_names-2.ensures begun.plain refl) (
          ap (λ first. joined_names true so_far ++ joined_names first names) c.loop-position.invariant.0 ∙ joined-append true so_far names ∙ ap (joined_names true) more),
    )
