use Rattle.std.proofs.Common.{◌∙◌, ◌++◌, ap}
use Rattle.hack_powerset_list.proofs.LineLemmas.{names-next}
use Rattle.hack_powerset_list.proofs.lines.names_behind.Goals as goal

pub loop-feature-preserved : goal.loop-feature-preserved
loop-feature-preserved c =
    names-next (λ name. c.args.before.now ++ name) c.args.features.now c.loop-feature.feature-index _ c.loop-feature.texts.items c.push.new.self.items _ c.loop-feature-test.true c.feature-item.is c.in_ok-push.ensures.items
    (c.in_ok-push_str.ensures.bytes ∙ ap (λ b. b ++ c.name.result.now) c.in_ok-text.ensures.ok ∙ ap (λ n. c.args.before.now ++ n) c.name.ensures)
    c.loop-feature.invariant
