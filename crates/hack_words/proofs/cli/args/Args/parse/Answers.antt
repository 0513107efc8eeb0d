use Rattle.std.proofs.Common.{map}
use Rattle.std.proofs.lemmas.Result.{IfOk-weaker}
use Rattle.hack_base.specs.Names.{names_of}
use Rattle.hack_base.specs.Notes.{note_of}
use Rattle.hack_words.specs.ParseAnswers.{AnswersCommandLine, BreakNoRule, around_of}
use Rattle.hack_words.specs.CommandLine.{ComesTo}
use Rattle.hack_words.proofs.AnswerLemmas.{answers-never}
use Rattle.hack_words.proofs.cli.args.Args.parse.Goals as goal

pub returns-clause-never : goal.returns-clause-never
returns-clause-never c =
    let around = around_of c.args.env.now c.args.rustup in
    let words = names_of c.args.words.now in
    IfOk-weaker c.read_words.result
    (λ answer. AnswersCommandLine around (ComesTo around words) answer.0 (map note_of answer.1.items))
    (λ _. BreakNoRule around words)
    (λ answer h. answers-never around words answer.0 (map note_of answer.1.items) h) c.read_words.ensures.ok
