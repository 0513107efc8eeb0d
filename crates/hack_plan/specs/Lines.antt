-- The line of a run, and what its parts show.
use Rattle.std.specs.Prelude.{ℕ, List, [], ◌∷◌, ◌++◌, Option, Some, None, codes, map, option_map, string_bytes}
use Rattle.std.specs.List.{flat_map}
use Rattle.hack_base.specs.Names.{Name}
use Rattle.hack_base.specs.PathTexts.{under_of}
use Rattle.hack_features.specs.Feature.{groups_of}
use Rattle.hack_plan.specs.Runs.{run_of}
use Rattle.hack_process.specs.CommandTexts.{Command, listed_of}
use Rattle.hack_plan.specs.declared.line.RunLine.{RunLine}
use Rattle.hack_plan.specs.View.{call_view}
use Rattle.hack_plan.specs.Commands.{call_command, run_names, run_words, target_pair, targets_in}
use Rattle.hack_process.specs.Commands.{manifest_words}

-- the arguments of a run's own
abbrev pub own_in : RunLine → List (List ℕ)
own_in line = flat_map target_pair (targets_in (call_view line.words.now) line.version line.slot) ++ manifest_words (option_map (λ path. path.now) line.manifest_path) ++ run_words (run_of line.run line.positions.items)

-- the names of a run's features
abbrev pub line_names : RunLine → List Name
line_names line = map string_bytes line.features.now ++ run_names (groups_of line.candidates.now) (run_of line.run line.positions.items)

-- the command of a run
abbrev pub command_in : RunLine → Command
command_in line = call_command (call_view line.words.now) line.version (own_in line) (line_names line)

-- what a run shows: its command, as a list of commands shows it
abbrev pub listed_text : RunLine → List ℕ
listed_text line = listed_of (call_view line.words.now).dir (command_in line)

-- a target, as a line shows it
abbrev pub shown_target : List ℕ → List ℕ
shown_target target = codes " --target " ++ target

-- `--manifest-path` and a path relative to a folder
abbrev pub shown_manifest : List ℕ → Option (List ℕ) → List (List ℕ)
shown_manifest dir None = []
shown_manifest dir (Some path) = codes "--manifest-path" ∷ under_of path dir ∷ []
