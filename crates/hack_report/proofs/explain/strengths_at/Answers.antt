use Rattle.hack_load.specs.ContextView.{context_view}
use Rattle.hack_metadata.specs.declared.metadata.resolve.PackageId.{PackageId}
use Rattle.hack_report.specs.Explained.{IsStrengthAt}
use Rattle.hack_report.proofs.ExplainLemmas.{zip_mapped}
use Rattle.hack_report.proofs.explain.strengths_at.Goals as goal

pub loop-id-preserved : goal.loop-id-preserved
loop-id-preserved c =
    zip_mapped (IsStrengthAt (context_view c.args.cx.now)) (λ (id : PackageId). id.index) c.args.ids.now c.loop-id.id-index _ c.loop-id-test.true c.loop-id.strengths.items _ _ c.strength_at.ensures c.in_ok-push.ensures.items c.loop-id.invariant
