-- The commands of a plan.
use Rattle.std.specs.Prelude.{◌≡◌, ℕ, false, List, [], ◌∷◌, ◌++◌, Option, Some, None, take, drop, length, codes, decimal, slice_get, if◌then◌else◌}
use Rattle.std.specs.List.{flat_map, slice_index_or}
use Rattle.std.specs.Option.{option_and_then, option_map, option_map_or}
use Rattle.hack_base.specs.Names.{Name}
use Rattle.hack_versions.specs.declared.version.Version.{Version}
use Rattle.hack_process.specs.CommandTexts.{Command, with_names}
use Rattle.hack_process.specs.Commands.{command_of, manifest_words, plain_command}
use Rattle.hack_process.specs.declared.process.ProcessBuilder.{ProcessBuilder}
use Rattle.hack_plan.specs.Runs.{PackageRun, Plain, AllFeatures, Set}
use Rattle.hack_plan.specs.Inputs.{is_split}
use Rattle.hack_plan.specs.declared.places.PlanEntry.{PlanEntry}
use Rattle.hack_plan.specs.View.{CallView, PackageView, PlanView}

-- the toolchain of a version: `1.` and its minor
abbrev pub toolchain_of : Version → List ℕ
toolchain_of v = codes "1." ++ decimal v.minor

-- the program of a version's commands: rustup, or cargo without a version
abbrev pub program_of : CallView → Option Version → List ℕ
program_of c version = option_map_or (λ v. c.rustup) version c.cargo

-- the arguments that make rustup run the cargo of a version
abbrev pub rustup_run_words : Option Version → List (List ℕ)
rustup_run_words version =
    option_map_or (λ v. codes "run" ∷ toolchain_of v ∷ codes "cargo" ∷ []) version []

-- the targets of a slot
abbrev pub targets_in : CallView → Option Version → ℕ → List (List ℕ)
targets_in c version slot = if is_split (length c.targets) c.cargo_minor version
    then take 1 (drop slot c.targets) else c.targets

-- how many slots a version has: one for each target where cargo takes one at a time
abbrev pub slots_in : CallView → Option Version → ℕ
slots_in c version = if is_split (length c.targets) c.cargo_minor version then length c.targets else 1

-- the target of a slot that has one of its own
abbrev pub slot_target : CallView → Option Version → ℕ → Option (List ℕ)
slot_target c version slot = if is_split (length c.targets) c.cargo_minor version
    then slice_get c.targets slot else None

-- a target after its option
abbrev pub target_pair : List ℕ → List (List ℕ)
target_pair target = codes "--target" ∷ target ∷ []

-- the argument that says which features a run has
abbrev pub run_words : PackageRun → List (List ℕ)
run_words Plain = []
run_words AllFeatures = codes "--all-features" ∷ []
run_words run = codes "--no-default-features" ∷ []

-- the names of the candidates at the positions, one after another
abbrev pub candidate_names_at : List (List Name) → List ℕ → List Name
candidate_names_at candidates positions = flat_map (λ p. slice_index_or candidates p []) positions

-- the names of a run's set
abbrev pub run_names : List (List Name) → PackageRun → List Name
run_names candidates (Set s) = candidate_names_at candidates s
run_names candidates run = []

-- a command with the arguments that the call passes on
abbrev pub call_command : CallView → Option Version → List (List ℕ) → List (List ℕ) → Command
call_command c version own names = record { program = program_of c version; strip_program_path = false; leading = rustup_run_words version; passed = c.passed; own = own; features = with_names None names; trailing = c.trailing }

-- the command of a run for all packages
abbrev pub whole_command : CallView → Option Version → ℕ → Command
whole_command c version slot = call_command c version (flat_map target_pair (targets_in c version slot)) c.features

-- the command of a package's run
abbrev pub run_command : CallView → Option Version → ℕ → PackageView → PackageRun → Command
run_command c version slot k run = call_command c version (flat_map target_pair (targets_in c version slot) ++ manifest_words k.manifest_path ++ run_words run) (k.features ++ run_names k.candidates run)

-- the command of a package's run by its rank, or of a run for all packages
abbrev pub ranked_command : CallView → Option Version → ℕ → Option PackageView → ℕ → Command
ranked_command c version slot None rank = whole_command c version slot
ranked_command c version slot (Some k) rank = run_command c version slot k (slice_index_or k.runs rank Plain)

-- the package of a place, as an index into the chosen ones
abbrev pub chosen_package_at : List PackageView → Option ℕ → Option PackageView
chosen_package_at packages place = option_and_then (slice_get packages) place

-- a package's name
abbrev pub name_in : Option PackageView → Option (List ℕ)
name_in chosen = option_map (λ k. k.name) chosen

-- the command of a place
abbrev pub command_of_entry : PlanView → PlanEntry → Command
command_of_entry plan q = ranked_command plan.call q.version q.slot (chosen_package_at plan.packages q.package) q.rank

-- the package whose artifacts are removed, if it is a single one
abbrev pub cleaned_words : Option PackageView → List (List ℕ)
cleaned_words cleaned = option_map_or (λ k. codes "--package" ∷ k.name ∷ []) cleaned []

-- the command that removes the artifacts of a package, or all artifacts
abbrev pub clean_command : CallView → Option PackageView → Command
clean_command c cleaned =
    plain_command c.cargo [] (codes "clean" ∷ (if c.locked then codes "--locked" ∷ [] else []) ++ cleaned_words cleaned)

-- the command that regenerates the lockfile
abbrev pub lockfile_command : CallView → Version → Command
lockfile_command c v = plain_command c.rustup (rustup_run_words (Some v)) (codes "generate-lockfile" ∷ manifest_words c.current_manifest)

-- a builder has collected the command
abbrev pub HasCollected : Command → ProcessBuilder → Type 0
HasCollected command builder = command_of builder ≡ command
