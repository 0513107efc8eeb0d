use Rattle.std.proofs.Common.{◌≡◌, ◌∙◌, ◌++◌, List, OnOk, ap, sym, subst, map}
use Rattle.std.specs.Prelude.{◌&&◌, ◌||◌, Bool, false}
use Rattle.hack_prepare.specs.FailureCounts.{WriteFails}
use Rattle.hack_base.specs.Names.{names_behind}
use Rattle.hack_base.specs.Notes.{Note, note_of}
use Rattle.hack_prepare.specs.Internal.{OnlyIf, members_view, one_if, AnyStart, HeldUnkept, KeepsBut, KeepsNext}
use Rattle.hack_prepare.specs.Prepared.{HoldTexts, drops_at_root, edits_root, gone_manifests}
use Rattle.hack_manifest.specs.LineRuns.{has_some}
use Rattle.hack_prepare.specs.PreparedView.{wanted_view}
use Rattle.hack_prepare.proofs.FaultLemmas.{found-fault, missed-fault}
use Rattle.hack_prepare.proofs.OrderLemmas.{next-unasked}
use Rattle.hack_prepare.proofs.RootLemmas.{drops-found, drops-missed, edited-found, edited-missed, edits-is, notes-are, partly-found, partly-missed, root-found, root-held, root-missed}
use Rattle.hack_prepare.proofs.StepLemmas.{step_given}
use Rattle.hack_prepare.proofs.WriteLemmas.{found-refused, found-traced, missed-refused, missed-traced, unwanted}
use Rattle.hack_prepare.proofs.FailedLemmas.{found-calls, missed-calls}
use Rattle.hack_prepare.proofs.root.edit_root.Goals as goal

pub returns-in-Some-clause-step : goal.returns-in-Some-clause-step
returns-in-Some-clause-step g c =
    let w = wanted_view c.args.wanted.now in
    let ms = members_view c.args.members.now.all.now in
    step_given g.F.Files.tells (HeldUnkept c.args.manager.now w.root c.in-Some.text.now) (λ start. HoldTexts start ms)
    (OnlyIf (w.drops_dev || has_some (names_behind c.args.members.now.gone.now)) w.root) (OnlyIf (edits_root w ms) w.root) c.args.manager.now c.edit_held.new.manager
    (g.F.Files.bytes_at c.args.files.now) (g.F.Files.bytes_at c.edit_held.new.files)
    (λ start holds _. root-held w ms c.in-Some.text.now start holds c.in-Some.ensures)
    (λ q h. (edits-is w ms w.drops_dev (names_behind c.args.members.now.gone.now) c.if-not-wanted.false (drops-found w ms (root-found w ms c.in-Some.text.now c.in-Some.ensures)) c.requires ∙ h.0, h.1)) c.edit_held.ensures.step

pub returns-in-Some-clause-partly : goal.returns-in-Some-clause-partly
returns-in-Some-clause-partly g c =
    partly-found g.F.Files.tells (WriteFails (g.F.Files.refuses c.args.files.now c.edit_held.new.files) (g.F.Files.failed c.args.files.now) (g.F.Files.failed c.edit_held.new.files) c.args.wanted.now.root.now) (wanted_view c.args.wanted.now) (members_view c.args.members.now.all.now) (names_behind c.args.members.now.gone.now)
    c.in-Some.text.now (g.F.Files.bytes_at c.args.files.now) (g.F.Files.bytes_at c.edit_held.new.files) c.in-Some.ensures c.edit_held.ensures.partly

pub returns-in-Some-clause-edited : goal.returns-in-Some-clause-edited
returns-in-Some-clause-edited g c =
    edited-found g.F.Files.tells c.edit_held.result (wanted_view c.args.wanted.now) (members_view c.args.members.now.all.now) (names_behind c.args.members.now.gone.now) c.in-Some.text.now
    (g.F.Files.bytes_at c.args.files.now) (g.F.Files.bytes_at c.edit_held.new.files) c.in-Some.ensures c.edit_held.ensures.edited

pub returns-in-Some-clause-others : goal.returns-in-Some-clause-others
returns-in-Some-clause-others g c = λ t.
    let w = wanted_view c.args.wanted.now in
    let ms = members_view c.args.members.now.all.now in
    subst (λ (b : Bool). KeepsBut w b (g.F.Files.bytes_at c.args.files.now) (g.F.Files.bytes_at c.edit_held.new.files))
    (sym (edits-is w ms w.drops_dev (names_behind c.args.members.now.gone.now) c.if-not-wanted.false (drops-found w ms (root-found w ms c.in-Some.text.now c.in-Some.ensures)) c.requires)) (c.edit_held.ensures.others t)

pub returns-in-Some-clause-told : goal.returns-in-Some-clause-told
returns-in-Some-clause-told g c =
    let w = wanted_view c.args.wanted.now in
    let ms = members_view c.args.members.now.all.now in
    subst (λ (l : List Note). OnOk c.edit_held.result (map note_of c.edit_held.new.notices.items ≡ map note_of c.args.notices.now.items ++ l))
    (notes-are w ms w.drops_dev (names_behind c.args.members.now.gone.now) c.if-not-wanted.false (drops-found w ms (root-found w ms c.in-Some.text.now c.in-Some.ensures)) c.requires) c.edit_held.ensures.told

pub returns-in-None-clause-step : goal.returns-in-None-clause-step
returns-in-None-clause-step g c =
    let w = wanted_view c.args.wanted.now in
    let ms = members_view c.args.members.now.all.now in
    step_given g.F.Files.tells AnyStart (λ start. HoldTexts start ms) (OnlyIf (has_some (names_behind c.args.members.now.gone.now)) w.root) (OnlyIf (edits_root w ms) w.root) c.args.manager.now c.edit_virtual.new.manager
    (g.F.Files.bytes_at c.args.files.now) (g.F.Files.bytes_at c.edit_virtual.new.files) (λ start holds. tt)
    (λ q h. (edits-is w ms false (names_behind c.args.members.now.gone.now) c.if-not-wanted.false (drops-missed w ms (root-missed w ms c.in-None.ensures)) c.requires ∙ h.0, h.1)) c.edit_virtual.ensures.step

pub returns-in-None-clause-partly : goal.returns-in-None-clause-partly
returns-in-None-clause-partly g c =
    partly-missed g.F.Files.tells (WriteFails (g.F.Files.refuses c.args.files.now c.edit_virtual.new.files) (g.F.Files.failed c.args.files.now) (g.F.Files.failed c.edit_virtual.new.files) c.args.wanted.now.root.now) (wanted_view c.args.wanted.now) (members_view c.args.members.now.all.now) (names_behind c.args.members.now.gone.now)
    (g.F.Files.bytes_at c.args.files.now) (g.F.Files.bytes_at c.edit_virtual.new.files) c.in-None.ensures c.edit_virtual.ensures.partly

pub returns-in-None-clause-edited : goal.returns-in-None-clause-edited
returns-in-None-clause-edited g c =
    edited-missed g.F.Files.tells c.edit_virtual.result (wanted_view c.args.wanted.now) (members_view c.args.members.now.all.now) (names_behind c.args.members.now.gone.now)
    (g.F.Files.bytes_at c.args.files.now) (g.F.Files.bytes_at c.edit_virtual.new.files) c.in-None.ensures c.if-not-wanted.false c.requires c.edit_virtual.ensures.edited

pub returns-in-None-clause-told : goal.returns-in-None-clause-told
returns-in-None-clause-told g c =
    let w = wanted_view c.args.wanted.now in
    let ms = members_view c.args.members.now.all.now in
    subst (λ (l : List Note). OnOk c.edit_virtual.result (map note_of c.edit_virtual.new.notices.items ≡ map note_of c.args.notices.now.items ++ l))
    (notes-are w ms false (names_behind c.args.members.now.gone.now) c.if-not-wanted.false (drops-missed w ms (root-missed w ms c.in-None.ensures)) c.requires) c.edit_virtual.ensures.told

pub returns-in-Some-clause-err : goal.returns-in-Some-clause-err
returns-in-Some-clause-err g c =
    found-fault g.F.Files.tells (wanted_view c.args.wanted.now) (members_view c.args.members.now.all.now) (names_behind c.args.members.now.gone.now) c.in-Some.text.now (g.F.Files.bytes_at c.args.files.now)
    c.edit_held.result c.in-Some.ensures c.if-not-wanted.false c.requires c.edit_held.ensures.err

pub returns-in-None-clause-err : goal.returns-in-None-clause-err
returns-in-None-clause-err g c =
    missed-fault g.F.Files.tells (wanted_view c.args.wanted.now) (members_view c.args.members.now.all.now) (names_behind c.args.members.now.gone.now) (g.F.Files.bytes_at c.args.files.now)
    c.edit_virtual.result c.in-None.ensures c.if-not-wanted.false c.requires c.edit_virtual.ensures.err

pub returns-in-Some-clause-calls : goal.returns-in-Some-clause-calls
returns-in-Some-clause-calls g c =
    found-calls g.F.Files (wanted_view c.args.wanted.now) (members_view c.args.members.now.all.now) (names_behind c.args.members.now.gone.now) c.in-Some.text.now (g.F.Files.bytes_at c.args.files.now)
    c.edit_held.result c.args.files.now c.edit_held.new.files c.in-Some.ensures c.if-not-wanted.false c.requires c.edit_held.ensures.calls

pub returns-in-None-clause-calls : goal.returns-in-None-clause-calls
returns-in-None-clause-calls g c =
    missed-calls g.F.Files (wanted_view c.args.wanted.now) (members_view c.args.members.now.all.now) (names_behind c.args.members.now.gone.now) (g.F.Files.bytes_at c.args.files.now)
    c.edit_virtual.result c.args.files.now c.edit_virtual.new.files c.in-None.ensures c.if-not-wanted.false c.requires c.edit_virtual.ensures.calls

pub returns-in-Some-clause-traced : goal.returns-in-Some-clause-traced
returns-in-Some-clause-traced g c =
    found-traced g.F.Files.tells (wanted_view c.args.wanted.now) (members_view c.args.members.now.all.now) (names_behind c.args.members.now.gone.now) (g.F.Files.bytes_at c.args.files.now) c.if-not-wanted.false c.requires c.in-Some.text.now (g.F.Files.trace c.args.files.now) (g.F.Files.trace c.edit_held.new.files) (g.F.Files.bytes_at c.args.files.now) (g.F.Files.bytes_at c.edit_held.new.files) c.in-Some.ensures g.F.Files.whole c.edit_held.result c.edit_held.ensures.traced

pub returns-in-Some-clause-refused : goal.returns-in-Some-clause-refused
returns-in-Some-clause-refused g c =
    found-refused g.F.Files.tells (wanted_view c.args.wanted.now) (members_view c.args.members.now.all.now) (names_behind c.args.members.now.gone.now) (g.F.Files.bytes_at c.args.files.now) c.if-not-wanted.false c.requires c.in-Some.text.now (g.F.Files.trace c.args.files.now) (g.F.Files.trace c.edit_held.new.files) (g.F.Files.bytes_at c.args.files.now) (g.F.Files.bytes_at c.edit_held.new.files) c.in-Some.ensures g.F.Files.whole c.edit_held.result c.edit_held.ensures.refused

pub returns-in-None-clause-traced : goal.returns-in-None-clause-traced
returns-in-None-clause-traced g c =
    missed-traced g.F.Files.tells (wanted_view c.args.wanted.now) (members_view c.args.members.now.all.now) (names_behind c.args.members.now.gone.now) (g.F.Files.bytes_at c.args.files.now) c.if-not-wanted.false c.requires (g.F.Files.trace c.args.files.now) (g.F.Files.trace c.edit_virtual.new.files) (g.F.Files.bytes_at c.args.files.now) (g.F.Files.bytes_at c.edit_virtual.new.files) c.in-None.ensures g.F.Files.whole c.edit_virtual.result c.edit_virtual.ensures.traced

pub returns-in-None-clause-refused : goal.returns-in-None-clause-refused
returns-in-None-clause-refused g c =
    missed-refused g.F.Files.tells (wanted_view c.args.wanted.now) (members_view c.args.members.now.all.now) (names_behind c.args.members.now.gone.now) (g.F.Files.bytes_at c.args.files.now) c.if-not-wanted.false c.requires (g.F.Files.trace c.args.files.now) (g.F.Files.trace c.edit_virtual.new.files) (g.F.Files.bytes_at c.args.files.now) (g.F.Files.bytes_at c.edit_virtual.new.files) c.in-None.ensures g.F.Files.whole c.edit_virtual.result c.edit_virtual.ensures.refused

pub returns-then-not-wanted-clause-traced : goal.returns-then-not-wanted-clause-traced
returns-then-not-wanted-clause-traced g c = λ y.
    unwanted g.F.Files.tells (wanted_view c.args.wanted.now) (members_view c.args.members.now.all.now) (g.F.Files.bytes_at c.args.files.now) (g.F.Files.trace c.args.files.now) (g.F.Files.bytes_at c.args.files.now) c.if-not-wanted.true

pub returns-in-Some-clause-order : goal.returns-in-Some-clause-order
returns-in-Some-clause-order g c =
    let w = wanted_view c.args.wanted.now in
    let ms = members_view c.args.members.now.all.now in
    subst (λ (b : Bool). OnOk c.edit_held.result (KeepsNext (one_if b w.root) c.args.manager.now c.edit_held.new.manager))
    (sym (edits-is w ms w.drops_dev (names_behind c.args.members.now.gone.now) c.if-not-wanted.false (drops-found w ms (root-found w ms c.in-Some.text.now c.in-Some.ensures)) c.requires)) c.edit_held.ensures.order

pub returns-in-None-clause-order : goal.returns-in-None-clause-order
returns-in-None-clause-order g c =
    let w = wanted_view c.args.wanted.now in
    let ms = members_view c.args.members.now.all.now in
    subst (λ (b : Bool). OnOk c.edit_virtual.result (KeepsNext (one_if b w.root) c.args.manager.now c.edit_virtual.new.manager))
    (sym (edits-is w ms false (names_behind c.args.members.now.gone.now) c.if-not-wanted.false (drops-missed w ms (root-missed w ms c.in-None.ensures)) c.requires)) c.edit_virtual.ensures.order

pub returns-then-not-wanted-clause-order : goal.returns-then-not-wanted-clause-order
returns-then-not-wanted-clause-order g c =
    let w = wanted_view c.args.wanted.now in
    let ms = members_view c.args.members.now.all.now in
    next-unasked (edits_root w ms) w.root c.args.manager.now (ap (λ b. b && (drops_at_root w ms || has_some (gone_manifests w ms))) c.if-not-wanted.true)
