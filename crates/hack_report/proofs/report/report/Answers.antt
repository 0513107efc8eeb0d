use Rattle.std.proofs.Common.{◌≡◌, ◌∙◌, List, ap, refl, subst, sym, ℕ}
use Rattle.std.proofs.lemmas.Bool.{eq-eqb, ne_eqb}
use Rattle.std.specs.Prelude.{Bool, MatchBool}
use Rattle.std.specs.List.{list_any}
use Rattle.hack_base.specs.Streams.{WritesText, stream_of}
use Rattle.hack_base.proofs.StreamLemmas.{wrote}
use Rattle.hack_session.specs.Reports.{failures_of}
use Rattle.hack_term.specs.Lines.{error_line}
use Rattle.hack_report.specs.Reported.{WritesReport, is_failed_preparation}
use Rattle.hack_report.proofs.ReportLemmas.{none_failed, noted_none, noted_one, some_failed}
use Rattle.hack_report.proofs.report.report.Goals as goal

pub returns-then-len-eq0-clause-told : goal.returns-then-len-eq0-clause-told
returns-then-len-eq0-clause-told g c =
    sym (none_failed c.in_ok-report.report.commands (failures_of c.args.session.now) _ c.len.result c.in_ok-report.ensures.names c.len.ensures.len (eq-eqb _ 0 c.if-len-eq0.true))

pub returns-then-len-eq0-clause-noted : goal.returns-then-len-eq0-clause-noted
returns-then-len-eq0-clause-noted g c =
    noted_none c.args.term.now _ (none_failed c.in_ok-report.report.commands (failures_of c.args.session.now) _ c.len.result c.in_ok-report.ensures.names c.len.ensures.len (eq-eqb _ 0 c.if-len-eq0.true))

pub returns-then-len-eq0-clause-shown : goal.returns-then-len-eq0-clause-shown
returns-then-len-eq0-clause-shown g c =
    let old = stream_of g.E.Sink c.args.err.now in
    subst (λ (b : Bool). MatchBool b (WritesReport c.args.term.now.coloring c.args.session.now old old) (old ≡ old))
    (sym (none_failed c.in_ok-report.report.commands (failures_of c.args.session.now) _ c.len.result c.in_ok-report.ensures.names c.len.ensures.len (eq-eqb _ 0 c.if-len-eq0.true))) refl

pub returns-clause-told : goal.returns-clause-told
returns-clause-told g c =
    let prepared = ap (list_any is_failed_preparation) (sym c.handed.ensures.value) ∙ sym c.is_unprepared.ensures ∙ c.if-is_unprepared.false in
    sym (some_failed c.in_ok-report.report.commands (failures_of c.args.session.now) _ c.len.result c.in_ok-report.ensures.names c.len.ensures.len (ne_eqb _ 0 c.if-len-eq0.false) prepared)

pub returns-clause-noted : goal.returns-clause-noted
returns-clause-noted g c =
    let prepared = ap (list_any is_failed_preparation) (sym c.handed.ensures.value) ∙ sym c.is_unprepared.ensures ∙ c.if-is_unprepared.false in
    noted_one c.args.term.now _ _ (some_failed c.in_ok-report.report.commands (failures_of c.args.session.now) _ c.len.result c.in_ok-report.ensures.names c.len.ensures.len (ne_eqb _ 0 c.if-len-eq0.false) prepared) c.error.ensures.noted

pub returns-clause-shown : goal.returns-clause-shown
returns-clause-shown g c =
    let old = stream_of g.E.Sink c.args.err.now in
    let new = stream_of g.E.Sink c.error.new.out in
    let prepared = ap (list_any is_failed_preparation) (sym c.handed.ensures.value) ∙ sym c.is_unprepared.ensures ∙ c.if-is_unprepared.false in
    let shown = subst (λ (text : List ℕ). WritesText (error_line c.args.term.now.coloring text) (stream_of g.E.Sink c.write_front.new.out) new)
    (c.deref.ensures ∙ c.in_ok-text.ensures.ok) (wrote g.E.Sink _ _ _ c.error.result c.error.ensures.line c.error.ensures.front c.error.ensures.counted) in
    subst (λ (b : Bool). MatchBool b (WritesReport c.args.term.now.coloring c.args.session.now old new) (new ≡ old))
    (sym (some_failed c.in_ok-report.report.commands (failures_of c.args.session.now) _ c.len.result c.in_ok-report.ensures.names c.len.ensures.len (ne_eqb _ 0 c.if-len-eq0.false) prepared))
    (record {
      report = c.in_ok-report.report;
      of = c.in_ok-report.ensures;
      sorted = c.len.ensures.ordered;
      written = (stream_of g.E.Sink c.write_front.new.out, wrote g.E.Sink _ _ _ c.write_front.result c.write_front.ensures.all c.write_front.ensures.front c.write_front.ensures.counted, (new, shown, refl));
    })
