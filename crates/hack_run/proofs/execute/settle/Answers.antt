use Rattle.std.proofs.Common.{◌∷◌, [], ap, codes, inl, inr, refl}
use Rattle.hack_base.specs.Streams.{stream_of}
use Rattle.hack_load.specs.ContextView.{context_view}
use Rattle.hack_report.specs.Findings.{found_remarks}
use Rattle.hack_report.specs.Remarks.{remark_lines}
use Rattle.hack_term.specs.Lines.{error_line}
use Rattle.hack_run.specs.Conclusions.{Conclusion, broken_after, finds, version_conclusion}
use Rattle.hack_run.proofs.ConclusionLemmas.{broken_one, lines_said, none_broken, says_known, says_starved, version_broken, version_found}
use Rattle.hack_run.proofs.execute.settle.Goals as goal

pub returns-then-refused-clause-shown : goal.returns-then-refused-clause-shown
returns-then-refused-clause-shown g c =
    says_starved c.args.term.now.coloring c.args.fault.now c.cut_off.new.fault c.args.term.now.error c.cut_off.new.term.error (stream_of g.E.Sink c.args.err.now) (stream_of g.E.Sink c.args.err.now) c.args.refused
    (version_conclusion (context_view c.args.cx.now) c.args.plan.now c.args.found.now) c.if-refused.true c.cut_off.ensures.fault (ap (λ t. t.error) c.cut_off.ensures.term) refl

pub returns-clause-shown : goal.returns-clause-shown
returns-clause-shown g c =
    let cx = context_view c.args.cx.now in
    let plan = c.args.plan.now in
    let found = c.args.found.now in
    let remarks = found_remarks cx plan 0 found in
    let lines = lines_said g.E.Sink c.tell_found.result (remark_lines c.args.term.now.coloring remarks) (error_line c.args.term.now.coloring (codes "out of memory") ∷ []) c.args.term.now.error c.keep.new.term.error c.args.err.now c.tell_found.new.err c.keep.new.err c.tell_found.ensures.shown c.tell_found.ensures.refused c.keep.ensures.shown c.keep.ensures.starved in
    let said = λ (known : Conclusion). says_known c.args.term.now.coloring c.args.fault.now c.forgive.new.fault c.args.term.now.error c.keep.new.term.error (stream_of g.E.Sink c.args.err.now) (stream_of g.E.Sink c.keep.new.err) c.args.refused (version_conclusion cx plan found) known c.if-refused.false in
    elim c.forgive.ensures [
      | inl broken ↦ said (broken_after remarks) (version_broken cx plan found (broken_one found broken.1)) (broken.0, lines)
      | inr whole ↦ said (finds remarks) (version_found cx plan found (none_broken found whole.1)) (whole.0, lines)
    ]
