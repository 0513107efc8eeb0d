use Rattle.std.proofs.Common.{ap, ◌∙◌, rules}
use Rattle.hack_load.proofs.ContextLemmas.{context-whole}
use Rattle.hack_metadata.specs.RecordViews.{package_view}
use Rattle.hack_planner.specs.Candidates.{candidates}
use Rattle.hack_hunt.proofs.plan.searched_package.Goals as goal

pub packages-pkg-requires : goal.packages-pkg-requires
packages-pkg-requires c = (context-whole c.args.cx.now).packages c.args.id.index c.requires

pub returns-clause-ok : goal.returns-clause-ok
returns-clause-ok c = record {
  pkg = package_view c.packages-pkg.result.now;
  features = c.pkg_features-features.result.now;
  known = c.packages-pkg.ensures;
  loaded = c.pkg_features-features.ensures;
  name = search rules;
  path = search rules;
  given = search rules;
  candidates = c.in_ok-candidates.ensures ∙ ap (λ r. candidates r c.pkg_features-features.result.now) c.in_ok-asked.ensures.rules;
  runs = search rules;
  settings = search rules;
}
