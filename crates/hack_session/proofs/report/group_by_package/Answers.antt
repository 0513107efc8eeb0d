use Rattle.std.proofs.Common.{arith, List, ap, sym, ◌∙◌, map, filter, string_bytes, bytes_eq}
use Rattle.std.specs.List.{list_any}
use Rattle.std.proofs.lemmas.List.{take_all}
use Rattle.hack_session.specs.declared.report.Failure.{Failure}
use Rattle.hack_session.proofs.ReportLemmas.{texts_as, names_as}
use Rattle.std.proofs.lemmas.Grind.{text_groups}
use Rattle.hack_session.proofs.report.group_by_package.Goals as goal

pub loop-failure-preserved : goal.loop-failure-preserved
loop-failure-preserved c = (λ q. grind (arith, text_groups, c.loop-failure.invariant.0 q), λ q. grind (arith, text_groups, c.loop-failure.invariant.1 q))

pub returns-clause-texts : goal.returns-clause-texts
returns-clause-texts c = λ name.
    c.loop-failure.invariant.0 name ∙ ap (λ (l : List Failure). map (λ f. string_bytes f.text) (filter (λ f. bytes_eq name (string_bytes f.name)) l)) (take_all _ _ c.loop-failure-test.false) ∙ sym (texts_as name c.args.failures.now)

pub returns-clause-names : goal.returns-clause-names
returns-clause-names c = λ name.
    c.loop-failure.invariant.1 name ∙ ap (λ (l : List Failure). list_any (λ f. bytes_eq name (string_bytes f.name)) l) (take_all _ _ c.loop-failure-test.false) ∙ sym (names_as name c.args.failures.now)
