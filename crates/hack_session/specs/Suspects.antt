-- Which small patterns explain the failed runs of a plan.
use Rattle.std.specs.Prelude.{ℕ, ◌≡◌, ◌≢◌, ◌<◌, ◌≤◌, ◌*◌, ◌++◌, ◌↔◌, List, [], ◌∷◌, Bool, Option, Some, None, All, AllPairs, Contains, length, map, option_map, slice_get, unwrap_or}
use Rattle.std.specs.List.{slice_index_or}
use Rattle.hack_plan.specs.declared.places.PlanEntry.{PlanEntry}
use Rattle.hack_plan.specs.View.{PackageView, PlanView}
use Rattle.hack_samples.specs.Sets.{rows_of}
use Rattle.hack_samples.specs.declared.sets.Setting.{Setting}
use Rattle.hack_suspects.specs.Suspects.{RunOutcome as Run_outcome, choices}
use Rattle.hack_suspects.specs.Counts.{Fails, FailsWith, IsNumberOf}
use Rattle.hack_suspects.specs.Uses.{AreSuspectsByUse}
use Rattle.hack_session.specs.declared.step.Step.{Step}
use Rattle.hack_session.specs.declared.step.Step.TheVariants.{Prepare, Skip, Run}
use Rattle.hack_session.specs.declared.step.Outcome.{Outcome}
use Rattle.hack_session.specs.declared.step.Outcome.TheVariants.{Failed}
use Rattle.hack_session.specs.declared.step.Handed.{Handed}
use Rattle.hack_session.specs.declared.suspects.Part.{Part}
use Rattle.hack_session.specs.declared.suspects.Explained.{Explained}
use Rattle.hack_session.specs.Histories.{Course}
use Rattle.hack_session.specs.ListLines.{is_failed}

-- the runs of a version, a slot and a package
abbrev pub part_in : PlanEntry → Option ℕ → Option Part
part_in q None = None
part_in q (Some place) = Some (record { version = q.version; slot = q.slot; «package» = place })

-- the part of a run, where it is for a single package
abbrev pub part_of : PlanEntry → Option Part
part_of q = part_in q q.package

-- the run of a step, where it has one
abbrev pub plan_entry_of : PlanView → Step → Option PlanEntry
plan_entry_of plan (Prepare preparation) = None
plan_entry_of plan (Skip place) = None
plan_entry_of plan (Run place) = slice_get plan.entries place

-- the part of a run, where there is one
abbrev pub part_where : Option PlanEntry → Option Part
part_where None = None
part_where (Some q) = part_of q

-- the part that a handed step is a run of, where it is one of a single package
abbrev pub part_at : PlanView → Handed → Option Part
part_at plan h = part_where (plan_entry_of plan h.step)

-- for each run of a package which candidates are on in it
abbrev pub settings_in : Option PackageView → List (List Bool)
settings_in None = []
settings_in (Some k) = k.settings

-- how many candidates a package has
abbrev pub candidate_count : Option PackageView → ℕ
candidate_count None = 0
candidate_count (Some k) = length k.candidates

-- what came of a part's run: which candidates were on in it, and whether it failed
abbrev pub run_outcome_of : PlanView → Part → PlanEntry → Outcome → Run_outcome
run_outcome_of plan part q outcome = record { on = slice_index_or (settings_in (slice_get plan.packages part.package)) q.rank []; failed = is_failed outcome }

-- what came of the part's runs among the handed steps, in order
pub data AreOutcomes (plan : PlanView) (part : Part) : List Handed → List Run_outcome → Type 0 where
  starts : AreOutcomes plan part [] []
  ran : {handed : List Handed} {outcomes : List Run_outcome} (h : Handed) (q : PlanEntry) → AreOutcomes plan part handed outcomes → plan_entry_of plan h.step ≡ Some q → part_of q ≡ Some part
      → AreOutcomes plan part (handed ++ h ∷ []) (outcomes ++ run_outcome_of plan part q h.outcome ∷ [])
  passes : {handed : List Handed} {outcomes : List Run_outcome} (h : Handed) → AreOutcomes plan part handed outcomes → part_at plan h ≢ Some part → AreOutcomes plan part (handed ++ h ∷ []) outcomes

-- a part, how many candidates its patterns have at most, how many of its runs failed, how many of
-- these show a suspect, and the suspects, or none where there are too many patterns to look at
pub record ExplainedView : Type 0 where
  pub part : Part
  pub strength : ℕ
  pub failed : ℕ
  pub showing : ℕ
  pub suspects : Option (List (List Setting))

-- the same without where it lies in memory
abbrev pub explained_view : Explained → ExplainedView
explained_view e = record { part = e.part; strength = e.strength; failed = e.failed; showing = e.showing; suspects = option_map (λ found. rows_of found.items) e.suspects }

-- the part of what is explained
abbrev pub part_explained : ExplainedView → Part
part_explained e = e.part

-- how many patterns are looked at, at most: outcomes times choices of candidates
abbrev pub most_patterns : ℕ
most_patterns = 1000000000

-- these are all the suspects, in order of use, and none are listed just where there are too many patterns to look at
abbrev pub AreFound : List Run_outcome → ℕ → ℕ → Option (List (List Setting)) → Type 0
AreFound outcomes n strength None = most_patterns < length outcomes * choices n strength
AreFound outcomes n strength (Some found) = AreSuspectsByUse outcomes n strength found × (length outcomes * choices n strength ≤ most_patterns)

-- the part is explained by what came of its runs; a failed run counts just where it shows a suspect
pub record IsExplained (plan : PlanView) (handed : List Handed) (strength : ℕ) (e : ExplainedView) : Type 0 where
  pub outcomes : List Run_outcome
  pub came : AreOutcomes plan e.part handed outcomes
  pub at : e.strength ≡ strength
  pub failed : IsNumberOf Fails outcomes e.failed
  pub showing : IsNumberOf (FailsWith (unwrap_or e.suspects [])) outcomes e.showing
  pub found : AreFound outcomes (candidate_count (slice_get plan.packages e.part.package)) strength e.suspects

-- some run of the part failed
pub record HasFailedRun (plan : PlanView) (handed : List Handed) (part : Part) : Type 0 where
  pub by : Handed
  pub among : Contains handed by
  pub failed : by.outcome ≡ Failed
  pub of : part_at plan by ≡ Some part

-- each is listed once
abbrev pub AreDistinctParts : List Part → Type 0
AreDistinctParts parts = AllPairs (λ one other. one ≢ other) parts

-- the one part had a failed run before the other had any: after some of the steps it has one, and the other hasn't
pub record FailsBefore (plan : PlanView) (handed : List Handed) (one other : Part) : Type 0 where
  pub before : List Handed
  pub after : List Handed
  pub split : handed ≡ before ++ after
  pub failed : HasFailedRun plan before one
  pub not : HasFailedRun plan before other → ⊥

-- just the parts with failed runs are explained, each once, in the order of their first failures
pub record AreExplained (t : Course) (strength : ℕ) (all : List ExplainedView) : Type 0 where
  pub once : AreDistinctParts (map part_explained all)
  pub ordered : AllPairs (FailsBefore t.plan t.handed) (map part_explained all)
  pub exactly : (part : Part) → Contains (map part_explained all) part ↔ HasFailedRun t.plan t.handed part
  pub explained : All (IsExplained t.plan t.handed strength) all
