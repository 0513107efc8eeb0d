use Rattle.std.proofs.Common.{◌∙◌, ◌++◌, ap, sym, subst, map, Contains}
use Rattle.std.proofs.lemmas.List.{map-append}
use Rattle.hack_load.specs.ContextView.{context_view}
use Rattle.hack_metadata.specs.declared.metadata.resolve.PackageId.{PackageId}
use Rattle.hack_base.specs.Notes.{note_of}
use Rattle.hack_planner.proofs.NoteLemmas.{told-of, none-told}
use Rattle.hack_planner.proofs.plan_notes.add_package.Goals as goal

pub features_for-requires : goal.features_for-requires
features_for-requires c =
    subst (λ (id : PackageId). Contains (context_view c.args.cx.now).metadata.workspace_members id.index) (sym c.in-Some.ensures.lookup.1)
    (c.requires c.args.place c.in-Some.id.now c.in-Some.ensures.lookup.3.0)

pub returns-in-None : goal.returns-in-None
returns-in-None c = none-told (context_view c.args.cx.now) c.args.ids.now c.args.place (map note_of c.args.notices.now.items) c.in-None.ensures.lookup.3

pub returns-in_ok-append-in-Some : goal.returns-in_ok-append-in-Some
returns-in_ok-append-in-Some c =
    ap (map note_of) c.in_ok-append-in-Some.ensures.items
    ∙ map-append note_of c.args.notices.now.items c.in_ok-told-in-Some.told.items
    ∙ ap (λ l. map note_of c.args.notices.now.items ++ l)
    (c.in_ok-told-in-Some.ensures.notices
    ∙ told-of (context_view c.args.cx.now) c.args.ids.now c.args.place c.in-Some.id.now c.in-Some.ensures.lookup.3.0 c.in-Some.ensures.lookup.1)
