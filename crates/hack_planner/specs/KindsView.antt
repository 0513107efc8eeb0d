-- What `Kind` shows as plain data.
use Rattle.std.specs.Prelude.{◌≡◌, ◌<◌, List, [], ◌∷◌, Bool, true, false, None, length}
use Rattle.hack_features.specs.Feature.{groups_of}
use Rattle.hack_plan.specs.Runs.{PackageRun, Plain}
use Rattle.hack_plan.specs.RunsView.{runs_in}
use Rattle.hack_planner.specs.declared.kind.Kind.{Kind}
use Rattle.hack_planner.specs.declared.kind.Kind.TheVariants.{Normal, Each, Powerset}
use Rattle.hack_base.specs.Names.{Name}
use Rattle.hack_load.specs.declared.features.Features.{Features}
use Rattle.hack_metadata.specs.Records.{PackageRecord}
use Rattle.hack_planner.specs.Candidates.{candidates}
use Rattle.hack_planner.specs.PackageRules.{PackageRulesRecord}
use Rattle.hack_planner.specs.Kinds.{AreCovering, AreRuns, AreRunSettings, HasPlainRun, HasSetRuns, IsDepthOne, IsUnsampled, as_each, package_choice}
use Rattle.hack_planner.specs.declared.fault.RunsFault.{RunsFault}
use Rattle.hack_planner.specs.declared.fault.RunsFault.TheVariants.{Memory, TooManyQuestions}

-- the runs of a kind, by rank
abbrev pub runs_of : Kind → List PackageRun
runs_of Normal = Plain ∷ []
runs_of (Each list runs) = runs_in runs
runs_of (Powerset list runs) = runs_in runs

-- the candidates of a kind
abbrev pub candidates_in : Kind → List (List Name)
candidates_in Normal = []
candidates_in (Each list runs) = groups_of list.items
candidates_in (Powerset list runs) = groups_of list.items

-- the kind of a package: its plain run alone, each candidate, or sets of them
abbrev pub IsKind : PackageRulesRecord → PackageRecord → Features → Kind → Type 0
IsKind r p f Normal = HasPlainRun r p f
IsKind r p f (Each list runs) = (r.each_feature ≡ true) × (r.feature_powerset ≡ false)
    × (groups_of list.items ≡ candidates r f) × HasSetRuns r p f (runs_in runs)
IsKind r p f (Powerset list runs) = (r.feature_powerset ≡ true)
    × (groups_of list.items ≡ candidates r f) × HasSetRuns r p f (runs_in runs)

-- why a package has no runs, if memory isn't refused: its sample needs too many questions
abbrev pub IsRunsFault : PackageRulesRecord → PackageRecord → Features → RunsFault → Type 0
IsRunsFault r p f Memory = ⊥
IsRunsFault r p f (TooManyQuestions tally) = IsUnsampled r p f tally

-- the runs that these rules give a package, and their rows: under a powerset of all sets each set of
-- candidates that has to be covered has a run that covers it; and for a package with optional
-- dependencies a powerset of depth 1 without strength, exclusion groups and at-least-one groups has
-- the runs of `--each-feature`
pub record AreRunsBy (r : PackageRulesRecord) (p : PackageRecord) (f : Features) (kind : Kind)
    (rows : List (List Bool)) : Type 0 where
  pub is_kind : IsKind r p f kind
  pub runs : AreRuns r p f (runs_of kind)
  pub covered : r.feature_powerset ≡ true → r.strength ≡ None → AreCovering r p f (runs_of kind)
  pub depth_one : IsDepthOne r → 0 < length f.optional_deps.items
      → AreRuns (as_each r) p f (runs_of kind)
  pub settings : AreRunSettings r.strength (package_choice r p f) (runs_of kind) rows
