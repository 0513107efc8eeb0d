-- The lines of a command list, and the commands of runs.
use Rattle.std.specs.Prelude.{ℕ, List, [], ◌∷◌, ◌++◌, Option, None, false, codes, flat_map}
use Rattle.hack_base.specs.Names.{Name}
use Rattle.hack_sets.specs.Sets.{items_at}
use Rattle.hack_process.specs.CommandTexts.{Command, with_names, shown_features}
use Rattle.hack_plan.specs.Runs.{PackageRun, Plain, AllFeatures, NoDefaultFeatures, Set}

-- the text of a run's command, with the names of the candidates
abbrev pub run_text : List Name → PackageRun → List ℕ
run_text names Plain = codes "cargo check"
run_text names AllFeatures = codes "cargo check --all-features"
run_text names NoDefaultFeatures = codes "cargo check --no-default-features"
run_text names (Set s) = codes "cargo check --no-default-features" ++ shown_features (with_names None (items_at names s))

-- the line of a run: its text, and a line feed
abbrev pub run_line : List Name → PackageRun → List ℕ
run_line names run = run_text names run ++ codes "\n"

-- the lines of runs
abbrev pub run_lines : List Name → List PackageRun → List ℕ
run_lines names runs = flat_map (run_line names) runs

-- the command's own arguments that say which features a run has
abbrev pub own_words : PackageRun → List (List ℕ)
own_words Plain = []
own_words AllFeatures = codes "--all-features" ∷ []
own_words NoDefaultFeatures = codes "--no-default-features" ∷ []
own_words (Set s) = codes "--no-default-features" ∷ []

-- the features that a run names, joined
abbrev pub run_features : List Name → PackageRun → Option (List ℕ)
run_features names Plain = None
run_features names AllFeatures = None
run_features names NoDefaultFeatures = None
run_features names (Set s) = with_names None (items_at names s)

-- the command of a run, with the user's arguments for cargo and the names of the candidates
abbrev pub listed_run_command : List (List ℕ) → List Name → PackageRun → Command
listed_run_command passed names run = record { program = codes "cargo"; strip_program_path = false; leading = []; passed = passed; own = own_words run; features = run_features names run; trailing = [] }
