use Rattle.std.proofs.Common.{ap, sym, ◌∙◌, ◌++◌, ◌∷◌, [], codes, map, take, string_bytes}
use Rattle.hack_metadata.specs.Requests.{platform_words}
use Rattle.hack_metadata.proofs.AskLemmas.{platforms-more}
use Rattle.hack_metadata.proofs.ask.commands.target_words.Goals as goal

pub loop-target-preserved : goal.loop-target-preserved
loop-target-preserved c =
    c.in_ok-push_platform.ensures
    ∙ ap (λ l. l ++ codes "--filter-platform" ∷ c.as_str.result.now ∷ []) c.loop-target.invariant
    ∙ ap (λ x. platform_words (map string_bytes (take c.loop-target.target-index c.args.targets.now)) ++ codes "--filter-platform" ∷ x ∷ []) c.as_str.ensures.value
    ∙ sym (platforms-more c.args.targets.now c.loop-target.target-index c.target-item.result c.loop-target-test.true c.target-item.is)
