-- What a caller in memory answers, and the calls that it shows.
use Rattle.std.specs.Prelude.{ℕ, Bool, List, [], ◌∷◌, ◌++◌, map, bytes_eq, string_bytes, if◌then◌else◌}
use Rattle.hack_process.specs.declared.caller.End.{End}
use Rattle.hack_process.specs.declared.fake.Made.{Made}
use Rattle.hack_process.specs.declared.fake.Reply.{Reply}
use Rattle.hack_process.specs.declared.fake.FakeCaller.{FakeCaller}
use Rattle.hack_process.specs.Calls.{Answer, Call, asked_call}
use Rattle.hack_process.specs.CommandTexts.{each_spaced}

-- a line, and the answer that was given for it
pub record Said : Type 0 where
  pub line : List ℕ
  pub answer : Answer

-- the answer of a reply
abbrev pub heard : Reply → Answer
heard r = record { end = r.end; stdout = r.stdout.items; stderr = r.stderr.items }

-- a reply as plain data
abbrev pub said_of : Reply → Said
said_of r = record { line = string_bytes r.line; answer = heard r }

-- the answers that were given, in order
abbrev pub replies_of : FakeCaller → List Said
replies_of caller = map said_of caller.replies.items

-- how calls end whose line was given no answer
abbrev pub otherwise_of : FakeCaller → End
otherwise_of caller = caller.otherwise

-- a call as plain data
abbrev pub made_call : Made → Call
made_call m = record {
  asked = asked_call (string_bytes m.program) m.words.items m.capture;
  answer = record { end = m.end; stdout = m.stdout.items; stderr = m.stderr.items };
}

-- the calls that were made, in order
abbrev pub made_by : FakeCaller → List Call
made_by caller = map made_call caller.made.items

-- a program and its arguments, each after a space
abbrev pub spaced_line_of : List ℕ → List (List ℕ) → List ℕ
spaced_line_of program words = program ++ each_spaced words

-- an end without output
abbrev pub nothing_but : End → Answer
nothing_but how = record { end = how; stdout = []; stderr = [] }

-- the first answer that was given for a line, or else just an end
abbrev pub reply_to : List ℕ → End → List Said → Answer
reply_to line otherwise [] = nothing_but otherwise
reply_to line otherwise (said ∷ rest) =
    if bytes_eq said.line line then said.answer else reply_to line otherwise rest

-- what a caller answers to a line
abbrev pub answer_to : List ℕ → FakeCaller → Answer
answer_to line caller = reply_to line (otherwise_of caller) (replies_of caller)

-- the answer that a call gets: without the output, unless it captures this
abbrev pub seen_answer : Bool → Answer → Answer
seen_answer capture answer = if capture then answer else nothing_but answer.end
