use Rattle.hack_metadata.specs.RecordViews.{package_view}
use Rattle.hack_planner.specs.PackageRules.{rules_in}
use Rattle.hack_planner.proofs.KindLemmas.{runs-of_kind}
use Rattle.hack_planner.proofs.DepthLemmas.{depth-one}
use Rattle.hack_planner.proofs.kind.runs_by.Goals as goal

pub returns-clause-made : goal.returns-clause-made
returns-clause-made c =
    let w = rules_in c.args.asked.now in
    let p = package_view c.args.pkg.now in
    let f = c.args.features.now in
    let kind = rw c.in-Ok.is at c.in_ok-kind.ensures.kind in
    let runs = runs-of_kind w p f _ kind in
    record {
      is_kind = kind;
      runs = runs;
      covered = rw c.in-Ok.is at c.in_ok-kind.ensures.covered;
      depth_one = λ one some. depth-one w p f _ one some runs;
      settings = rw c.in-Ok.is at c.in_ok-kind.ensures.settings;
    }
