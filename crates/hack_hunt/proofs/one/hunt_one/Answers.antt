use Rattle.std.proofs.Common.{◌∙◌, ap, inl, inr}
use Rattle.std.proofs.lemmas.Result.{IfErr-weaker, IfOk-weaker}
use Rattle.hack_features.specs.Feature.{groups_of}
use Rattle.hack_load.proofs.ContextLemmas.{context-whole}
use Rattle.hack_load.specs.ContextView.{context_view}
use Rattle.hack_metadata.specs.RecordViews.{package_view}
use Rattle.hack_planner.specs.PackageRules.{rules_in}
use Rattle.hack_hunt.specs.SpotView.{spot_view}
use Rattle.hack_hunt.proofs.RuleLemmas.{aim_at}
use Rattle.hack_hunt.proofs.one.hunt_one.Goals as goal

pub packages-pkg-requires : goal.packages-pkg-requires
packages-pkg-requires g c = (context-whole c.args.cx.now).packages c.args.spot.id.index c.requires.id

pub hunt_rules-requires-clause-known : goal.hunt_rules-requires-clause-known
hunt_rules-requires-clause-known g c = ap groups_of c.deref.ensures.value ∙ c.in_ok-candidates.ensures

pub returns-clause-hunted : goal.returns-clause-hunted
returns-clause-hunted g c =
    let cx = context_view c.args.cx.now in
    let pkg = package_view c.packages-pkg.result.now in
    let features = c.pkg_features-features.result.now in
    IfOk-weaker c.hunt_rules.result _ _ (λ hunted h. record {
      made = h.2.3.made;
      hunt = record {
        aim = h.2.0;
        of = aim_at cx (spot_view c.args.spot) pkg features (rules_in c.in_ok-unbound.unbound) h.0 h.2.0 c.packages-pkg.ensures c.pkg_features-features.ensures c.in_ok-unbound.ensures h.1 h.2.2;
        finding = h.2.1;
        hunt = h.2.3.hunt;
        told = h.2.4;
        ran = h.2.5;
      };
      handed = h.2.3.handed;
      whole = h.2.3.whole;
    }) c.hunt_rules.ensures.hunted

pub returns-clause-fault : goal.returns-clause-fault
returns-clause-fault g c =
    let cx = context_view c.args.cx.now in
    let pkg = package_view c.packages-pkg.result.now in
    let features = c.pkg_features-features.result.now in
    IfErr-weaker c.hunt_rules.result _ _ (λ why h. elim h [
      | inl refused ↦ inl refused
      | inr searched ↦ elim searched.2 [
        | inl refused ↦ inl refused
        | inr cut ↦ inr (record {
          aim = cut.0;
          of = aim_at cx (spot_view c.args.spot) pkg features (rules_in c.in_ok-unbound.unbound) searched.0 cut.0 c.packages-pkg.ensures c.pkg_features-features.ensures c.in_ok-unbound.ensures searched.1 cut.1;
          short = cut.2;
        })
      ]
    ]) c.hunt_rules.ensures.fault
