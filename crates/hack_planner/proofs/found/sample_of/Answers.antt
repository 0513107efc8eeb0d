use Rattle.std.proofs.Common.{arith}
use Rattle.hack_planner.proofs.found.sample_of.Goals as goal

pub returns-in-Err-TooManyQuestions-clause-given_up : goal.returns-in-Err-TooManyQuestions-clause-given_up
returns-in-Err-TooManyQuestions-clause-given_up c =
    let at_end = rw c.in-Err-TooManyQuestions.field-0-is at c.in-Err-TooManyQuestions.ensures.tired in
    (c.tally.ensures, omega (arith, c.requires, at_end))
