use Rattle.std.proofs.Common.{◌∙◌, Contains, IfSome, Option, ℕ, ap, sym, subst}
use Rattle.std.specs.Prelude.{option_and_then, option_map}
use Rattle.hack_load.proofs.ContextLemmas.{context-whole}
use Rattle.hack_load.specs.ContextView.{context_view}
use Rattle.hack_load.specs.Contexts.{package_at}
use Rattle.hack_metadata.specs.Records.{PackageRecord}
use Rattle.hack_planner.proofs.determine.current_name.Goals as goal

pub name_at-requires : goal.name_at-requires
name_at-requires c =
    let cx = context_view c.args.context.now in
    (context-whole c.args.context.now).packages c.in-Some.id.index (subst (λ (o : Option ℕ). IfSome o (Contains cx.metadata.workspace_members)) (sym c.in-Some.ensures) (context-whole c.args.context.now).current)

pub returns-in-Some : goal.returns-in-Some
returns-in-Some c = sym c.name_at.ensures ∙ ap (option_and_then (λ (id : ℕ). option_map (λ (p : PackageRecord). p.name) (package_at (context_view c.args.context.now) id))) c.in-Some.ensures

pub returns-in-None : goal.returns-in-None
returns-in-None c = ap (option_and_then (λ (id : ℕ). option_map (λ (p : PackageRecord). p.name) (package_at (context_view c.args.context.now) id))) c.in-None.ensures
