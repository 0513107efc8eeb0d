use Rattle.std.proofs.Common.{◌≡◌, Ok, List, MatchOption, ap, sym, subst, map, string_bytes}
use Rattle.std.proofs.lemmas.Result.{err_from_is_err_and, IfOk-weaker, IfErr-weaker}
use Rattle.hack_rules.specs.UseReading.{ReadsUsesThen, End}
use Rattle.hack_rules.specs.Uses.{Use, views}
use Rattle.hack_rules.specs.declared.uses.cut.Cuts.{Cuts}
use Rattle.hack_base.specs.Notes.{note_of}
use Rattle.hack_words.specs.ParseAnswers.{AnswersCommandLine, Refuses}
use Rattle.hack_words.specs.Internal.{IsJudged, GivesCuts, around_in}
use Rattle.hack_words.specs.CommandLine.{ComesFrom, Faulty, outcome_of}
use Rattle.hack_rules.specs.CliFaults.{fault_of}
use Rattle.hack_rules.specs.declared.fault.CliFault.TheVariants as fault
use Rattle.hack_words.specs.Start.{Cuts as Begun}
use Rattle.hack_words.proofs.AnswerLemmas.{judged-answers, printed-answers, cut-refuses, fault-refuses}
use Rattle.hack_words.proofs.cli.parse.parse_start.Goals as goal

pub returns-in_err-print-clause-err : goal.returns-in_err-print-clause-err
returns-in_err-print-clause-err c =
    let p = err_from_is_err_and c.from_residual.result c.from_residual.ensures.1 in
    rw (p.1, p.2) (cut-refuses (around_in c.args.around) c.args.start.behavior (map string_bytes c.args.start.words.items) (map string_bytes c.args.start.trailing.items) (c.in_err-print.field-0.0 ≡ fault.Memory) (fault_of c.in_err-print.field-0.0) c.in_err-print.ensures)

pub returns-in_ok-print_answer-in-Asks-clause-ok : goal.returns-in_ok-print_answer-in-Asks-clause-ok
returns-in_ok-print_answer-in-Asks-clause-ok c =
    let asked = subst (λ (cuts : Cuts). GivesCuts (Ok cuts) (map string_bytes c.args.start.words.items)) c.in-Asks.is c.in_ok-print.ensures in
    printed-answers (around_in c.args.around) c.args.start.behavior (map string_bytes c.args.start.words.items) (map string_bytes c.args.start.trailing.items) asked.0 c.in-Asks.print _ _ asked.1 c.in_ok-print_answer-in-Asks.ensures

pub returns-in-Uses-clause-ok : goal.returns-in-Uses-clause-ok
returns-in-Uses-clause-ok c =
    let around = around_in c.args.around in
    let words = map string_bytes c.args.start.words.items in
    let trailing = map string_bytes c.args.start.trailing.items in
    let us = views c.as_slice.result.now in
    let ends = subst (λ (cuts : Cuts). GivesCuts (Ok cuts) (map string_bytes c.args.start.words.items)) c.in-Uses.is c.in_ok-print.ensures in
    let read = subst (λ (us : List Use). ReadsUsesThen (map string_bytes c.args.start.words.items) us End) (sym (ap views c.as_slice.ensures.value)) ends in
    IfOk-weaker c.judge_uses.result
    (λ answer. IsJudged around c.args.start.behavior trailing us answer.0 (map note_of answer.1.items))
    (λ answer. AnswersCommandLine around (ComesFrom around (Begun c.args.start.behavior words trailing)) answer.0 (map note_of answer.1.items))
    (λ answer h. judged-answers around c.args.start.behavior words trailing us answer.0 (map note_of answer.1.items) read h) c.judge_uses.ensures.ok

pub returns-in-Uses-clause-err : goal.returns-in-Uses-clause-err
returns-in-Uses-clause-err c =
    let around = around_in c.args.around in
    let words = map string_bytes c.args.start.words.items in
    let trailing = map string_bytes c.args.start.trailing.items in
    let us = views c.as_slice.result.now in
    let ends = subst (λ (cuts : Cuts). GivesCuts (Ok cuts) (map string_bytes c.args.start.words.items)) c.in-Uses.is c.in_ok-print.ensures in
    let read = subst (λ (us : List Use). ReadsUsesThen (map string_bytes c.args.start.words.items) us End) (sym (ap views c.as_slice.ensures.value)) ends in
    IfErr-weaker c.judge_uses.result
    (λ e. MatchOption (fault_of e) (e ≡ fault.Memory) (λ told. outcome_of around c.args.start.behavior trailing us ≡ Faulty told))
    (Refuses (ComesFrom around (Begun c.args.start.behavior words trailing)))
    (λ e h. fault-refuses around c.args.start.behavior words trailing us e read h) c.judge_uses.ensures.err
