use Rattle.std.proofs.Common.{OnOk, string_bytes, subst, sym}
use Rattle.std.specs.Prelude.{◌||◌, Bool}
use Rattle.hack_base.specs.Names.{names_behind}
use Rattle.hack_manifest.specs.LineRuns.{has_some}
use Rattle.hack_prepare.specs.PreparedView.{wanted_view}
use Rattle.hack_prepare.proofs.RootLemmas.{keeps-but}
use Rattle.hack_prepare.specs.Internal.{KeepsNext, Nowhere, Only, OnlyIf, one_if}
use Rattle.hack_prepare.proofs.FailedLemmas.{result-wider}
use Rattle.hack_prepare.proofs.OrderLemmas.{next-unasked}
use Rattle.hack_prepare.proofs.WriteLemmas.{root-made, root-or-none}
use Rattle.hack_prepare.proofs.root.edit_held.Goals as goal

pub returns-clause-others : goal.returns-clause-others
returns-clause-others g c = λ t.
    keeps-but (wanted_view c.args.wanted.now) (c.args.held.now.drops_dev || has_some (names_behind c.args.held.now.gone.now)) (g.F.Files.bytes_at c.args.files.now) (g.F.Files.bytes_at c.replace.new.files)
    (sym c.if-not-is_asked.ensures) (c.replace.ensures.others t)

pub returns-clause-traced : goal.returns-clause-traced
returns-clause-traced g c =
    root-made g.F.Files.whole c.replace.result (wanted_view c.args.wanted.now) c.args.held.now.drops_dev (names_behind c.args.held.now.gone.now) c.args.held.now.text.now (string_bytes c.in_ok-between.between) (string_bytes c.in_ok-text.text) c.as_str.result.now
    (g.F.Files.trace c.args.files.now) (g.F.Files.trace c.replace.new.files) (g.F.Files.bytes_at c.args.files.now) (g.F.Files.bytes_at c.replace.new.files) (sym c.if-not-is_asked.ensures) c.as_str.ensures.value c.in_ok-between.ensures.ok c.in_ok-text.ensures.ok c.replace.ensures.traced

pub returns-clause-refused : goal.returns-clause-refused
returns-clause-refused g c =
    root-or-none g.F.Files.whole c.replace.result (wanted_view c.args.wanted.now) c.args.held.now.drops_dev (names_behind c.args.held.now.gone.now) c.args.held.now.text.now (string_bytes c.in_ok-between.between) (string_bytes c.in_ok-text.text) c.as_str.result.now
    (g.F.Files.trace c.args.files.now) (g.F.Files.trace c.replace.new.files) (g.F.Files.bytes_at c.args.files.now) (g.F.Files.bytes_at c.replace.new.files) (sym c.if-not-is_asked.ensures) c.as_str.ensures.value c.in_ok-between.ensures.ok c.in_ok-text.ensures.ok c.replace.ensures.refused

pub returns-clause-order : goal.returns-clause-order
returns-clause-order g c =
    subst (λ (b : Bool). OnOk c.replace.result (KeepsNext (one_if b c.args.wanted.now.root.now) c.args.manager.now c.replace.new.manager)) c.if-not-is_asked.ensures c.replace.ensures.order

pub returns-then-not-is_asked-clause-order : goal.returns-then-not-is_asked-clause-order
returns-then-not-is_asked-clause-order g c =
    next-unasked (c.args.held.now.drops_dev || has_some (names_behind c.args.held.now.gone.now)) c.args.wanted.now.root.now c.args.manager.now (sym c.if-not-is_asked.ensures)

pub returns-clause-calls : goal.returns-clause-calls
returns-clause-calls g c =
    let root = c.args.wanted.now.root.now in
    result-wider g.F.Files Nowhere Nowhere Nowhere Nowhere (Only root) (OnlyIf (c.args.held.now.drops_dev || has_some (names_behind c.args.held.now.gone.now)) root) c.replace.result c.args.files.now c.replace.new.files
    (λ p h. h) (λ p h. h) (λ p h. (sym c.if-not-is_asked.ensures, h)) c.replace.ensures.calls
