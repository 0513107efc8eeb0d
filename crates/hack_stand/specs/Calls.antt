-- A whole call of a stand-in.
use Rattle.std.specs.Prelude.{ℕ, List, Option, Result, MatchResult, map, drop, string_bytes}
use Rattle.std.proofs.Common.{Global, String}
use Rattle.std.specs.Vec.Iter.{into_iter_items}
use Rattle.std.specs.Io.KnownBytes.{Appends}
use Rattle.std.specs.declared.vec.IntoIter.{IntoIter}
use Rattle.std.specs.declared.io.Error.{Error}
use Rattle.std.specs.declared.env.VarError.{VarError}
use Rattle.hack_files.specs.Files.{Contents}
use Rattle.hack_stand.specs.declared.stand.Tool.{Tool}
use Rattle.hack_stand.specs.Stands.{Stands}

-- the arguments of a call as the system gives them, the program's name first; or its error
abbrev pub ToolArguments : Type 0
ToolArguments = Result (IntoIter (String Global) Global) Error

-- the arguments of a call after the program's name
abbrev pub argument_words : IntoIter (String Global) Global → List (List ℕ)
argument_words arguments = map string_bytes (drop 1 (into_iter_items arguments))

-- what a stand-in prints in this folder for these arguments is written, and its status is this one
abbrev pub WritesOutput : Tool → List ℕ → List (List ℕ) → Contents → Contents → Option (List ℕ)
    → Option (List ℕ) → ℕ → Type 0
WritesOutput tool dir words old new before now status =
    (output : List ℕ) × Stands tool dir words old new output status × Appends before now output

-- a folder and arguments are given, and the stand-in answered these arguments in it, provided that
-- the contents of the files are known
abbrev pub AnswersArguments : Tool → Type 0 → Result (String Global) VarError → ToolArguments → Contents
    → Contents → Option (List ℕ) → Option (List ℕ) → ℕ → Type 0
AnswersArguments tool tells dir arguments old new before now status = MatchResult dir
    (λ d. MatchResult arguments
    (λ all. tells → WritesOutput tool (string_bytes d) (argument_words all) old new before now status)
    (λ e. ⊥))
    (λ e. ⊥)
