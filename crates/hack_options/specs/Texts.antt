-- How messages and the help show options.
use Rattle.std.specs.Prelude.{ℕ, List, ◌++◌, ◌&&◌, Bool, true, false, Option, Some, None, codes, encode_utf8, if◌then◌else◌}
use Rattle.hack_options.specs.declared.opt.Opt.{Opt}
use Rattle.hack_options.specs.declared.opt.Opt.TheVariants as opt
use Rattle.hack_options.specs.declared.messages.Usage.{Usage}
use Rattle.hack_options.specs.declared.messages.Usage.TheVariants.{Long, Short}
use Rattle.hack_options.specs.declared.messages.WithAlias.{WithAlias}
use Rattle.hack_options.specs.Table.{entry_of}
use Rattle.hack_options.specs.Find.{long_option, short_option}

-- the name that messages show for an option
abbrev pub shown_option_name : Opt → List ℕ
shown_option_name opt.WorkspaceBehavior = codes "workspace-behavior=cargo"
shown_option_name o = (entry_of o).name

-- an option as messages name it
abbrev pub shown_option : Opt → List ℕ
shown_option o = codes "--" ++ shown_option_name o

-- the same, with its alias in messages that name it
abbrev pub shown_with_alias : Opt → List ℕ
shown_with_alias opt.ExcludeFeatures = codes "--exclude-features (--skip)"
shown_with_alias o = shown_option o

-- the value that the help shows after the name; empty where the option takes none, or has it in its
-- name
abbrev pub help_value_of : Opt → List ℕ
help_value_of o = (entry_of o).value

-- whether the help has a row for the option: two of Cargo, one of cargo-hack, and seven of
-- ours have none
abbrev pub is_told : Opt → Bool
is_told opt.NoDefaultFeatures = false
is_told opt.AllFeatures = false
is_told opt.IncludeDepsFeatures = false
is_told opt.Strength = false
is_told opt.Restore = false
is_told opt.PackageRules = false
is_told opt.Parallel = false
is_told opt.FindRustVersion = false
is_told opt.FindConflicts = false
is_told opt.MostRuns = false
is_told o = true

-- whether a row of the help has exactly this option's name
abbrev pub has_usage : Opt → Bool
has_usage opt.WorkspaceBehavior = false
has_usage o = is_told o

-- whether the help shows the option's letter, if it has one
abbrev pub shows_letter : Opt → Bool
shows_letter opt.ManifestPath = false
shows_letter o = true

-- the name and the value of the option's row
abbrev pub row_usage : Opt → List ℕ
row_usage o = codes "--" ++ (entry_of o).name ++ codes " " ++ help_value_of o

-- the usage of the option where the help has it in the written form, else that form
abbrev pub usage_or : List ℕ → (Opt → Bool) → Option Opt → List ℕ
usage_or written in_help None = written
usage_or written in_help (Some o) = if in_help o then row_usage o else written

-- what a message shows as the usage of an option in its written form
abbrev pub usage_text : Usage → List ℕ
usage_text (Long name) = usage_or (codes "--" ++ name.now) has_usage (long_option name.now)
usage_text (Short letter) = usage_or (codes "-" ++ encode_utf8 letter) (λ o. has_usage o && shows_letter o) (short_option letter)

-- the option that is shown with its alias
abbrev pub aliased_option : WithAlias → Opt
aliased_option told = told.option
