-- What a caller is asked, what it answers, and the calls that it shows.
use Rattle.std.specs.Prelude.{◌≡◌, ◌⊎◌, ℕ, Bool, List, [], ◌∷◌, ◌++◌, pos}
use Rattle.std.proofs.Common.{Global, String}
use Rattle.hack_process.specs.declared.caller.End.{End}
use Rattle.hack_process.specs.declared.caller.End.TheVariants.{Status, NeverStarted}
use Rattle.hack_process.specs.declared.caller.Called.{Called}
use Rattle.hack_base.specs.Names.{names_of}

-- a program with its arguments, and whether its output is captured
pub record Asked : Type 0 where
  pub program : List ℕ
  pub words : List (List ℕ)
  pub capture : Bool

-- how a program ended, and the bytes that it wrote, where they were captured
pub record Answer : Type 0 where
  pub end : End
  pub stdout : List ℕ
  pub stderr : List ℕ

-- what was asked, and the answer
pub record Call : Type 0 where
  pub asked : Asked
  pub answer : Answer

-- an answer as plain data
abbrev pub answer_of : Called → Answer
answer_of called = record {
  end = called.end;
  stdout = called.stdout.items;
  stderr = called.stderr.items;
}

-- the call of a program with these arguments
abbrev pub asked_call : List ℕ → List (String Global) → Bool → Asked
asked_call program words capture = record {
  program = program;
  words = names_of words;
  capture = capture;
}

-- nothing was captured
abbrev pub WroteNothing : Answer → Type 0
WroteNothing answer = (answer.stdout ≡ []) × (answer.stderr ≡ [])

-- just this call was made, and had this answer
abbrev pub AddsCall : Asked → Answer → List Call → List Call → Type 0
AddsCall asked answer old new = new ≡ old ++ record { asked = asked; answer = answer } ∷ []

-- this call was made, with some answer, or none was
abbrev pub MayAdd : Asked → List Call → List Call → Type 0
MayAdd asked old new = (new ≡ old) ⊎ ((answer : Answer) × AddsCall asked answer old new)

-- a program ended with status 0
abbrev pub IsSuccess : End → Type 0
IsSuccess how = how ≡ Status (pos 0)

-- a program was started, and ended another way
abbrev pub IsFailure : End → Type 0
IsFailure how = (¬ IsSuccess how) × (¬ (how ≡ NeverStarted))
