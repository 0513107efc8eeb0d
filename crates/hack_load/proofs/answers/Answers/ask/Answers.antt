use Rattle.std.proofs.Common.{inr}
use Rattle.hack_files.proofs.FailedLemmas.{none_failed}
use Rattle.hack_files.specs.TraceLaws.{makes_none}
use Rattle.hack_load.proofs.answers.Answers.ask.Goals as goal

pub returns-clause-course : goal.returns-clause-course
returns-clause-course g c = g.C.Caller.course_more _ _ _ c.in-Ok.ensures.course c.load-loaded.ensures.course

pub returns-in-Err-clause-undone : goal.returns-in-Err-clause-undone
returns-in-Err-clause-undone g c = λ called. inr (
  c.out_of_memory.ensures,
  none_failed g.F.Files c.args.files.now,
  λ w. makes_none (g.F.Files.trace c.args.files.now) (g.F.Files.bytes_at c.args.files.now),
  c.in-Err.ensures.err called,
)
