use Rattle.std.proofs.Common.{◌∙◌, ◌≡◌, ap, map, subst}
use Rattle.hack_load.proofs.ContextLemmas.{context-whole}
use Rattle.hack_load.specs.ContextView.{context_view}
use Rattle.hack_load.specs.declared.features.Features.{Features}
use Rattle.hack_metadata.specs.Records.{PackageRecord}
use Rattle.hack_metadata.specs.RecordViews.{package_view}
use Rattle.hack_base.specs.Notes.{note_of}
use Rattle.hack_samples.specs.Sets.{rows_of}
use Rattle.hack_words.specs.declared.cli.args.Args.{Args}
use Rattle.hack_planner.specs.Calls.{package_notes, rules_at}
use Rattle.hack_planner.specs.KindsView.{AreRunsBy}
use Rattle.hack_planner.specs.PackageRules.{PackageRulesRecord, rules_in}
use Rattle.hack_planner.proofs.PackageRuleLemmas.{at-place}
use Rattle.hack_planner.proofs.determine.determine_kind.Goals as goal

pub packages-pkg-requires : goal.packages-pkg-requires
packages-pkg-requires c = (context-whole c.args.context.now).packages c.args.id.index c.requires

pub returns-in-Ok-clause-made : goal.returns-in-Ok-clause-made
returns-in-Ok-clause-made c = λ (p : PackageRecord) (f : Features) known loaded.
    let cx = context_view c.args.context.now in
    at-place cx c.args.id.index (λ q g. AreRunsBy (rules_at cx q g) q g c.in-Ok.made.kind (rows_of c.in-Ok.made.settings.items)) (package_view c.packages-pkg.result.now) p c.pkg_features-features.result.now f c.packages-pkg.ensures c.pkg_features-features.ensures known loaded
    (subst (λ (w : PackageRulesRecord). AreRunsBy w (package_view c.packages-pkg.result.now) c.pkg_features-features.result.now c.in-Ok.made.kind (rows_of c.in-Ok.made.settings.items)) c.in_ok-asked.ensures.rules c.in-Ok.ensures.made)

pub returns-in-Ok-clause-notices : goal.returns-in-Ok-clause-notices
returns-in-Ok-clause-notices c = λ (p : PackageRecord) (f : Features) known loaded.
    let cx = context_view c.args.context.now in
    at-place cx c.args.id.index (λ q g. map note_of c.in_ok-notices.notices.items ≡ package_notes cx.args c.args.single (rules_at cx q g) q g) (package_view c.packages-pkg.result.now) p c.pkg_features-features.result.now f c.packages-pkg.ensures c.pkg_features-features.ensures known loaded
    (c.in_ok-notices.ensures ∙ ap (λ (a : Args). package_notes a c.args.single (rules_in c.in_ok-asked.asked) (package_view c.packages-pkg.result.now) c.pkg_features-features.result.now) c.args-2.ensures
    ∙ ap (λ (r : PackageRulesRecord). package_notes cx.args c.args.single r (package_view c.packages-pkg.result.now) c.pkg_features-features.result.now) c.in_ok-asked.ensures.rules)
