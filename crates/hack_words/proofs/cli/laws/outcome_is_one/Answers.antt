use Rattle.hack_words.proofs.AnswerLemmas.{outcome-one}
use Rattle.hack_words.proofs.cli.laws.outcome_is_one.Goals as goal

pub returns : goal.returns
returns c = outcome-one
