use Rattle.std.proofs.Common.{◌∙◌, refl, [], Some, ap, sym, string_bytes}
use Rattle.std.proofs.lemmas.Result.{on_ok_weaker}
use Rattle.hack_base.specs.Names.{names_behind}
use Rattle.hack_files.specs.TraceLaws.{makes_none}
use Rattle.hack_prepare.specs.FailureCounts.{WriteFails}
use Rattle.hack_prepare.specs.FailedCalls.{IsAbsent}
use Rattle.hack_prepare.specs.Internal.{IsHeldFault, Nowhere, OnlyIf}
use Rattle.hack_manifest.specs.LineRuns.{has_some}
use Rattle.hack_prepare.specs.PreparedView.{wanted_view}
use Rattle.hack_prepare.proofs.CountLemmas.{calls_then, write_then}
use Rattle.hack_prepare.proofs.FaultLemmas.{text-fault, virtual-fault}
use Rattle.hack_prepare.proofs.FailedLemmas.{result-on, result-wider, text-fails}
use Rattle.hack_prepare.proofs.RootLemmas.{edited-read, none-left, partly-read, some-left}
use Rattle.hack_prepare.proofs.StepLemmas.{step_read}
use Rattle.hack_prepare.proofs.WriteLemmas.{if-unasked, virtual-begun, virtual-made}
use Rattle.hack_prepare.proofs.root.edit_virtual.Goals as goal

pub returns-in-Ok-clause-counted : goal.returns-in-Ok-clause-counted
returns-in-Ok-clause-counted g c =
    calls_then (g.F.Files.failed c.args.files.now) (g.F.Files.failed c.read_to_string.new.files) (g.F.Files.failed c.edit_held.new.files) c.edit_held.result
    c.in-Ok.ensures.ok c.edit_held.ensures.counted

pub returns-in-Ok-clause-step : goal.returns-in-Ok-clause-step
returns-in-Ok-clause-step g c =
    step_read g.F.Files.tells c.args.wanted.now.root.now c.as_str.result.now (OnlyIf (has_some (names_behind c.args.private.now)) c.args.wanted.now.root.now) c.args.manager.now c.edit_held.new.manager
    (g.F.Files.bytes_at c.args.files.now) (g.F.Files.bytes_at c.read_to_string.new.files) (g.F.Files.bytes_at c.edit_held.new.files)
    c.read_to_string.ensures.same (λ t. c.in-Ok.ensures.text t ∙ ap Some (sym c.as_str.ensures.value)) c.edit_held.ensures.step

pub returns-in-Ok-clause-edited : goal.returns-in-Ok-clause-edited
returns-in-Ok-clause-edited g c =
    edited-read g.F.Files.tells c.edit_held.result (wanted_view c.args.wanted.now) (names_behind c.args.private.now) (string_bytes c.in-Ok.text) c.as_str.result.now
    (g.F.Files.bytes_at c.args.files.now) (g.F.Files.bytes_at c.edit_held.new.files) c.as_str.ensures.value c.in-Ok.ensures.text c.edit_held.ensures.edited

pub returns-in-Ok-clause-partly : goal.returns-in-Ok-clause-partly
returns-in-Ok-clause-partly g c =
    let first = g.F.Files.failed c.args.files.now in
    let mid = g.F.Files.failed c.read_to_string.new.files in
    let last = g.F.Files.failed c.edit_held.new.files in
    let later = g.F.Files.refuses c.read_to_string.new.files c.edit_held.new.files in
    let all = g.F.Files.refuses c.args.files.now c.edit_held.new.files in
    let root = c.args.wanted.now.root.now in
    partly-read g.F.Files.tells (WriteFails later mid last root) (WriteFails all first last root) (wanted_view c.args.wanted.now) (names_behind c.args.private.now) (string_bytes c.in-Ok.text) c.as_str.result.now
    (g.F.Files.bytes_at c.args.files.now) (g.F.Files.bytes_at c.read_to_string.new.files) (g.F.Files.bytes_at c.edit_held.new.files)
    c.as_str.ensures.value c.in-Ok.ensures.text c.read_to_string.ensures.same
    (write_then (g.F.Files.refuses c.args.files.now c.read_to_string.new.files) later all first mid last root (λ ps qs one other. g.F.Files.refuses_more _ _ _ ps qs one other) c.in-Ok.ensures.ok c.read_to_string.ensures.refused_none)
    c.edit_held.ensures.partly

pub returns-in-Ok-clause-refused_none : goal.returns-in-Ok-clause-refused_none
returns-in-Ok-clause-refused_none g c =
    on_ok_weaker c.edit_held.result (λ later. g.F.Files.refuses_more _ _ _ [] [] c.read_to_string.ensures.refused_none later) c.edit_held.ensures.refused_none

pub returns-in-Ok-clause-err : goal.returns-in-Ok-clause-err
returns-in-Ok-clause-err g c =
    virtual-fault g.F.Files.tells (wanted_view c.args.wanted.now) (names_behind c.args.private.now) (string_bytes c.in-Ok.text) c.as_str.result.now (g.F.Files.bytes_at c.args.files.now)
    c.edit_held.result c.as_str.ensures.value c.in-Ok.ensures.text c.edit_held.ensures.err

pub returns-in-Err-clause-err : goal.returns-in-Err-clause-err
returns-in-Err-clause-err g c =
    text-fault c.args.wanted.now.root.now (has_some (names_behind c.args.private.now)) g.F.Files.tells (g.F.Files.bytes_at c.args.files.now)
    (IsHeldFault (wanted_view c.args.wanted.now) (names_behind c.args.private.now) g.F.Files.tells (g.F.Files.bytes_at c.args.files.now)) (g.F.Files.failed c.args.files.now) (g.F.Files.failed c.read_to_string.new.files)
    c.in-Err.fault c.of_file.result (some-left c.args.private.now c.if-is_empty.ensures) c.in-Err.ensures.fault c.of_file.ensures

pub returns-in-Ok-clause-traced : goal.returns-in-Ok-clause-traced
returns-in-Ok-clause-traced g c =
    virtual-made g.F.Files.whole c.edit_held.result g.F.Files.tells (wanted_view c.args.wanted.now) (names_behind c.args.private.now) (string_bytes c.in-Ok.text) c.as_str.result.now (g.F.Files.bytes_at c.args.files.now) (g.F.Files.bytes_at c.read_to_string.new.files) (g.F.Files.trace c.args.files.now) (g.F.Files.trace c.read_to_string.new.files) (g.F.Files.trace c.edit_held.new.files) (g.F.Files.bytes_at c.edit_held.new.files)
    c.as_str.ensures.value c.in-Ok.ensures.text c.read_to_string.ensures.untraced c.edit_held.ensures.traced

pub returns-in-Ok-clause-refused : goal.returns-in-Ok-clause-refused
returns-in-Ok-clause-refused g c =
    virtual-begun g.F.Files.whole c.edit_held.result g.F.Files.tells (wanted_view c.args.wanted.now) (names_behind c.args.private.now) (string_bytes c.in-Ok.text) c.as_str.result.now (g.F.Files.bytes_at c.args.files.now) (g.F.Files.bytes_at c.read_to_string.new.files) (g.F.Files.trace c.args.files.now) (g.F.Files.trace c.read_to_string.new.files) (g.F.Files.trace c.edit_held.new.files) (g.F.Files.bytes_at c.edit_held.new.files)
    c.as_str.ensures.value c.in-Ok.ensures.text c.read_to_string.ensures.untraced c.edit_held.ensures.refused

pub returns-in-Ok-clause-stays : goal.returns-in-Ok-clause-stays
returns-in-Ok-clause-stays g c = g.F.Files.stays_more _ _ _ c.read_to_string.ensures.stays c.edit_held.ensures.stays

pub returns-in-Err-clause-calls : goal.returns-in-Err-clause-calls
returns-in-Err-clause-calls g c =
    let root = c.args.wanted.now.root.now in
    text-fails g.F.Files (OnlyIf (has_some (names_behind c.args.private.now)) root) (OnlyIf (has_some (names_behind c.args.private.now)) root) root c.in-Err.fault c.of_file.result (g.F.Files.failed c.args.files.now) (g.F.Files.failed c.read_to_string.new.files) c.args.files.now c.read_to_string.new.files
    (some-left c.args.private.now c.if-is_empty.ensures, refl) c.in-Err.ensures.fault c.of_file.ensures c.read_to_string.ensures.refused_none c.in-Err.ensures.unseen

pub returns-then-is_empty-clause-traced : goal.returns-then-is_empty-clause-traced
returns-then-is_empty-clause-traced g c = λ whole. ([], if-unasked (has_some (names_behind c.args.private.now)) _ (none-left c.args.private.now c.if-is_empty.ensures), makes_none _ _)

pub returns-in-Ok-clause-calls : goal.returns-in-Ok-clause-calls
returns-in-Ok-clause-calls g c =
    let at = OnlyIf (has_some (names_behind c.args.private.now)) c.args.wanted.now.root.now in
    let absent = IsAbsent g.F.Files.tells (g.F.Files.bytes_at c.args.files.now) at in
    result-on g.F.Files absent at at c.edit_held.result c.args.files.now c.read_to_string.new.files c.edit_held.new.files
    (record { unseen = c.in-Ok.ensures.unseen; refused = c.read_to_string.ensures.refused_none })
    (result-wider g.F.Files Nowhere absent Nowhere at at at c.edit_held.result c.read_to_string.new.files c.edit_held.new.files (λ p h. absurd h) (λ p h. absurd h) (λ p h. h) c.edit_held.ensures.calls)
