-- How many questions are asked.
use Rattle.std.specs.Prelude.{◌≤◌, ℕ}
use Rattle.hack_samples.specs.declared.fault.SampleFault.{SampleFault}
use Rattle.hack_samples.specs.declared.fault.SampleFault.TheVariants.{Memory, TooManyQuestions}

-- an error for too many questions comes only once their count has reached the end
abbrev pub IsTired : ℕ → ℕ → SampleFault → Type 0
IsTired end count Memory = Unit {0}
IsTired end count TooManyQuestions = end ≤ count
