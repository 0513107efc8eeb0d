use Rattle.std.proofs.Common.{◌∙◌, Contains, subst, sym}
use Rattle.hack_load.specs.ContextView.{context_view}
use Rattle.hack_planner.proofs.TableLemmas.{found-member, missed-features}
use Rattle.hack_planner.proofs.tables.features_of.Goals as goal

pub pkg_features-requires : goal.pkg_features-requires
pkg_features-requires c = subst (λ ms. Contains ms c.args.id.index) c.workspace_members.ensures.members (found-member c.workspace_members.result.now c.args.id.index (sym c.contains.ensures.value ∙ c.if-contains.true))

pub returns-else-contains : goal.returns-else-contains
returns-else-contains c =
    let cx = context_view c.args.cx.now in
    missed-features c.workspace_members.result.now cx.metadata.workspace_members cx.features c.args.id.index c.workspace_members.ensures.members c.workspace_members.ensures.whole.features (sym c.contains.ensures.value ∙ c.if-contains.false)
