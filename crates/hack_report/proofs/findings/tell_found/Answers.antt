use Rattle.std.proofs.Common.{◌∙◌, List, ap, map}
use Rattle.std.specs.List.{list_any}
use Rattle.hack_load.specs.ContextView.{context_view}
use Rattle.hack_report.specs.Remarks.{is_error_remark, is_warning_remark, remark_of}
use Rattle.hack_report.specs.declared.remarks.Remark.{Remark}
use Rattle.hack_report.proofs.FoundLemmas.{found_end, found_errors, found_warnings}
use Rattle.hack_report.proofs.findings.tell_found.Goals as goal

pub returns-clause-noted : goal.returns-clause-noted
returns-clause-noted g c =
    let cx = context_view c.args.cx.now in
    let plan = c.args.plan.now in
    let found = c.args.found.now in
    let are = ap (λ (l : List Remark). map remark_of l) c.deref.ensures.value ∙ found_end cx plan found c.loop-member.member _ _ c.loop-member-test.false c.loop-member.invariant in
    (c.tell_remarks.ensures.fails ∙ ap (list_any is_error_remark) are ∙ found_errors cx plan 0 found, c.tell_remarks.ensures.warns ∙ ap (list_any is_warning_remark) are ∙ found_warnings cx plan 0 found)
