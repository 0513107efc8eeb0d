use Rattle.std.proofs.Common.{◌∙◌, ap, sym}
use Rattle.std.proofs.lemmas.Result.{IfOk-weaker}
use Rattle.hack_base.specs.Names.{Name}
use Rattle.hack_load.proofs.ContextLemmas.{context-whole}
use Rattle.hack_load.specs.ContextView.{context_view}
use Rattle.hack_metadata.specs.RecordViews.{package_view}
use Rattle.hack_planner.specs.Looks.{look_of}
use Rattle.hack_planner.specs.PackageRules.{PackageRulesRecord, rules_in}
use Rattle.hack_planner.proofs.LookLemmas.{look-here}
use Rattle.hack_planner.proofs.looks.look_at.Goals as goal

pub packages-pkg-requires : goal.packages-pkg-requires
packages-pkg-requires c = (context-whole c.args.cx.now).packages c.args.id.index c.requires

pub returns : goal.returns
returns c =
    let cx = context_view c.args.cx.now in
    let pkg = package_view c.packages-pkg.result.now in
    let features = c.pkg_features-features.result.now in
    IfOk-weaker c.look_of.result _ _
    (λ text e. e ∙ ap (λ (name : Name). look_of (rules_in c.in_ok-asked.asked) name features) c.as_str.ensures.value
    ∙ ap (λ (r : PackageRulesRecord). look_of r pkg.name features) c.in_ok-asked.ensures.rules
    ∙ sym (look-here cx c.args.id.index pkg features c.packages-pkg.ensures c.pkg_features-features.ensures))
    c.look_of.ensures
