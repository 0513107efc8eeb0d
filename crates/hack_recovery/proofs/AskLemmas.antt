-- What refused command lines ask.
use Rattle.std.proofs.Common.{◌≡◌}
use Rattle.std.specs.Prelude.{◌≢◌, Option, Some, None, MatchOption}
use Rattle.hack_rules.specs.CliFaults.{Fault, fault_of}
use Rattle.hack_rules.specs.declared.fault.CliFault.{CliFault}
use Rattle.hack_rules.specs.declared.fault.CliFault.TheVariants.{Memory}
use Rattle.hack_words.specs.ParseAnswers.{Refuses}
use Rattle.hack_words.specs.CommandLine.{CommandLineOutcome, Faulty}

some_told : (Comes : CommandLineOutcome → Type 0) (e : CliFault) (told : Option Fault) → MatchOption told (e ≡ Memory) (λ f. Comes (Faulty f)) → e ≢ Memory → (f : Fault) × Comes (Faulty f)
some_told Comes e None h unlike = absurd (unlike h)
some_told Comes e (Some f) h unlike = (f, h)

-- an error that isn't want of memory is one of the command line
pub refusal : (Comes : CommandLineOutcome → Type 0) (e : CliFault) → Refuses Comes e → e ≢ Memory → (f : Fault) × Comes (Faulty f)
refusal Comes e h unlike = some_told Comes e (fault_of e) h unlike
