-- What only private functions of the crate promise each other.
use Rattle.std.specs.Prelude.{Option, Some, ℕ, List, true, Contains, IsTrue, IsSome, string_bytes, ◌≡◌}
use Rattle.hack_load.specs.Contexts.{ContextRecord}
use Rattle.hack_versions.specs.declared.version.Version.{Version}
use Rattle.hack_plan.specs.Inputs.{IsVersionsFault}
use Rattle.hack_plan.specs.declared.versions.PlanInput.{PlanInput}
use Rattle.hack_planner.specs.declared.fault.PlanFault.{PlanFault}
use Rattle.hack_planner.specs.declared.fault.PlanFault.TheVariants as fault
use Rattle.hack_planner.specs.Calls.{HasBadOwn, HasNoSampleAt}
use Rattle.hack_planner.specs.RulesFor.{TableFault, OwnField, WorkspaceField, Grouped}
use Rattle.hack_planner.specs.declared.fault.RunsFault.{RunsFault}
use Rattle.hack_planner.specs.declared.fault.RunsFault.TheVariants as runs
use Rattle.hack_planner.specs.Kinds.{most_questions}
use Rattle.hack_planner.specs.declared.uses.Chosen.{Chosen}
use Rattle.hack_planner.specs.PackageRules.{PackageRulesRecord}
use Rattle.hack_features.specs.View.{asked_in}

-- the error says that the range is refused
abbrev pub SaysRangeRefused : PlanInput → Option Version → PlanFault → Type 0
SaysRangeRefused s latest fault.Memory = ⊥
SaysRangeRefused s latest (fault.Stable text) = ⊥
SaysRangeRefused s latest (fault.Packages e) = ⊥
SaysRangeRefused s latest (fault.PackageRules field name) = ⊥
SaysRangeRefused s latest (fault.WorkspaceRules field) = ⊥
SaysRangeRefused s latest (fault.ExcludedInGroup feature name) = ⊥
SaysRangeRefused s latest (fault.Version e) = ⊥
SaysRangeRefused s latest (fault.Range e) = IsVersionsFault s.range s latest e
SaysRangeRefused s latest (fault.TooManyQuestions name tally) = ⊥
SaysRangeRefused s latest fault.TooManyRuns = ⊥

-- the error says that this is wrong with a table
abbrev pub SaysFault : Option TableFault → PlanFault → Type 0
SaysFault found fault.Memory = ⊥
SaysFault found (fault.Stable text) = ⊥
SaysFault found (fault.Packages e) = ⊥
SaysFault found (fault.PackageRules field name) = found ≡ Some (OwnField (string_bytes name) (string_bytes field))
SaysFault found (fault.WorkspaceRules field) = found ≡ Some (WorkspaceField (string_bytes field))
SaysFault found (fault.ExcludedInGroup feature name) = found ≡ Some (Grouped (string_bytes name) (string_bytes feature))
SaysFault found (fault.Version e) = ⊥
SaysFault found (fault.Range e) = ⊥
SaysFault found (fault.TooManyQuestions name tally) = ⊥
SaysFault found fault.TooManyRuns = ⊥

-- the error says that the own version of one of these packages can't be read
abbrev pub IsOwnFault : ContextRecord → List ℕ → PlanFault → Type 0
IsOwnFault cx ids fault.Memory = ⊥
IsOwnFault cx ids (fault.Stable text) = ⊥
IsOwnFault cx ids (fault.Packages e) = ⊥
IsOwnFault cx ids (fault.PackageRules field name) = ⊥
IsOwnFault cx ids (fault.WorkspaceRules field) = ⊥
IsOwnFault cx ids (fault.ExcludedInGroup feature name) = ⊥
IsOwnFault cx ids (fault.Version e) = HasBadOwn cx ids e
IsOwnFault cx ids (fault.Range e) = ⊥
IsOwnFault cx ids (fault.TooManyQuestions name tally) = ⊥
IsOwnFault cx ids fault.TooManyRuns = ⊥

-- the error says that this package has no sample
abbrev pub SaysNoSample : ContextRecord → ℕ → PlanFault → Type 0
SaysNoSample cx id fault.Memory = ⊥
SaysNoSample cx id (fault.Stable text) = ⊥
SaysNoSample cx id (fault.Packages e) = ⊥
SaysNoSample cx id (fault.PackageRules field name) = ⊥
SaysNoSample cx id (fault.WorkspaceRules field) = ⊥
SaysNoSample cx id (fault.ExcludedInGroup feature name) = ⊥
SaysNoSample cx id (fault.Version e) = ⊥
SaysNoSample cx id (fault.Range e) = ⊥
SaysNoSample cx id (fault.TooManyQuestions name tally) = HasNoSampleAt cx id (string_bytes name) tally
SaysNoSample cx id fault.TooManyRuns = ⊥

-- the error says that one of the chosen packages, which is used, has no sample
abbrev pub HasRunsFault : ContextRecord → List Chosen → PlanFault → Type 0
HasRunsFault cx chosen e = (one : Chosen) × Contains chosen one × IsTrue one.is_used × SaysNoSample cx one.id.index e

-- a sample is given up for want of memory, or after just as many questions as may be asked, which the tally tells
abbrev pub IsGivenUp : ℕ → RunsFault → Type 0
IsGivenUp asked runs.Memory = Unit {0}
IsGivenUp asked (runs.TooManyQuestions tally) = (asked_in tally ≡ asked) × (asked ≡ most_questions)

-- the error says that a sample was asked for and given up after just as many questions as were asked of these rules
abbrev pub IsRefused : PackageRulesRecord → ℕ → RunsFault → Type 0
IsRefused r asked runs.Memory = ⊥
IsRefused r asked (runs.TooManyQuestions tally) = (r.feature_powerset ≡ true) × IsSome r.strength
    × (asked_in tally ≡ asked) × (asked ≡ most_questions)
