use Rattle.std.proofs.Common.{string_bytes}
use Rattle.hack_base.specs.Names.{names_of}
use Rattle.hack_versions.specs.declared.rustup.Rustup.TheVariants.{Unasked}
use Rattle.hack_words.specs.Start.{wants_rustup}
use Rattle.hack_run.proofs.CallLemmas.{asks_nothing}
use Rattle.hack_run.proofs.reading.reading_of.Goals as goal

pub returns-in-Some-clause-read : goal.returns-in-Some-clause-read
returns-in-Some-clause-read g c =
    let early = rw c.in-Some.is at c.requires in
    record {
      rustup = Unasked;
      asked = λ _. asks_nothing (wants_rustup (names_of c.args.words.now)) (string_bytes c.args.env.now.rustup) (g.C.Caller.calls c.args.caller.now) early.0;
      reason = λ _. tt;
      read = early.1;
    }

pub returns-in-Some-clause-course : goal.returns-in-Some-clause-course
returns-in-Some-clause-course g c = g.C.Caller.course_none c.args.caller.now
