-- A reading of refused words is some refusal of them.
use Rattle.std.proofs.Common.{◌⊎◌, inl, inr, IfSome, List, Option, None, Some, MatchOption}
use Rattle.hack_base.specs.Names.{Name}
use Rattle.hack_rules.specs.CliFaults.{Fault, fault_of}
use Rattle.hack_versions.specs.declared.rustup.Rustup.TheVariants.{Unasked}
use Rattle.hack_words.specs.CommandLine.{Around, ComesTo, Faulty}
use Rattle.hack_words.specs.ParseAnswers.{around_of}
use Rattle.hack_words.specs.declared.cli.env.Env.{Env}
use Rattle.hack_run.specs.declared.reading.Reading.{Reading}
use Rattle.hack_run.specs.declared.reading.Reading.TheVariants.{Accepted, Refused}
use Rattle.hack_run.specs.Readings.{IsEarlyReading, IsEarlyReadingOrRefusal, IsReading, IsReadingOrRefusal}

some_told : {A : Type 0} (C : Fault → Type 0) (o : Option Fault) → MatchOption o A C → A ⊎ ((told : Fault) × C told)
some_told C None h = inl h
some_told C (Some told) h = inr (told, h)

pub or_refusal : (around : Around) (words : List Name) (reading : Reading) → IsReading around words reading → IsReadingOrRefusal around words reading
or_refusal around words (Accepted parsed notices) h = h.0
or_refusal around words (Refused fault) h = some_told (λ told. ComesTo around words (Faulty told)) (fault_of fault) h

pub early_or_refusal : (env : Env) (words : List Name) (reading : Reading) → IsEarlyReading env words reading → IsEarlyReadingOrRefusal env words reading
early_or_refusal env words reading h = (h.0, or_refusal (around_of env Unasked) words reading h.1)

pub some_or_refusal : (env : Env) (words : List Name) (reading : Option Reading) → IfSome reading (IsEarlyReading env words) → IfSome reading (IsEarlyReadingOrRefusal env words)
some_or_refusal env words None h = tt
some_or_refusal env words (Some reading) h = early_or_refusal env words reading h
