use Rattle.std.proofs.Common.{◌∙◌, List, ap, map}
use Rattle.std.specs.List.{list_any}
use Rattle.std.proofs.lemmas.List.{take_all}
use Rattle.hack_report.specs.Conflicts.{hunted_remarks}
use Rattle.hack_report.specs.Remarks.{is_error_remark, is_warning_remark, remark_of}
use Rattle.hack_report.specs.declared.remarks.Remark.{Remark}
use Rattle.hack_report.proofs.FoundLemmas.{hunted_errors, hunted_warnings}
use Rattle.hack_report.proofs.conflict_lines.tell_hunted.Goals as goal

pub returns-clause-noted : goal.returns-clause-noted
returns-clause-noted g c =
    let found = c.args.found.now in
    let are = ap (λ (l : List Remark). map remark_of l) c.deref.ensures.value ∙ c.loop-one.invariant
    ∙ ap (hunted_remarks c.args.verbose c.args.plan.now) (take_all c.loop-one.one-index found c.loop-one-test.false) in
    (c.tell_remarks.ensures.fails ∙ ap (list_any is_error_remark) are ∙ hunted_errors c.args.verbose c.args.plan.now found, c.tell_remarks.ensures.warns ∙ ap (list_any is_warning_remark) are ∙ hunted_warnings c.args.verbose c.args.plan.now found)
