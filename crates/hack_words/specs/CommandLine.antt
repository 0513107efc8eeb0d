-- The outcome of a command line in its environment: an error, a text to print, cargo's list, or
-- arguments.
use Rattle.std.specs.Prelude.{ℕ, ◌≡◌, ◌++◌, ◌&&◌, ◌||◌, List, [], ◌∷◌, Bool, true, false, Option, codes, if◌then◌else◌}
use Rattle.std.specs.Option.{option_map_or}
use Rattle.hack_options.specs.declared.opt.Opt.TheVariants as opt
use Rattle.hack_rules.specs.declared.uses.behavior.WorkspaceBehavior.{WorkspaceBehavior}
use Rattle.hack_rules.specs.declared.uses.cut.Print.{Print}
use Rattle.hack_rules.specs.UseReading.{Reading, Met, End, Prints as Questions, Fails, ReadsUsesThen}
use Rattle.hack_rules.specs.Uses.{Use, is_given}
use Rattle.hack_rules.specs.Values.{value_given}
use Rattle.hack_base.specs.Notes.{Note, note_if}
use Rattle.hack_versions.specs.Readings.{at_dots}
use Rattle.hack_base.specs.declared.notice.NoticeKind.TheVariants.{Info, Warn, QuietWarn}
use Rattle.hack_rules.specs.AskedFields.{is_old_asked}
use Rattle.hack_rules.specs.CliFaults.{Fault, Cut}
use Rattle.hack_rules.specs.CliLists.{groups_given}
use Rattle.hack_rules.specs.declared.fault.Beside.TheVariants as beside
use Rattle.hack_rules.specs.Rules.{counts, first_of, has_beside}
use Rattle.hack_rules.specs.EarlyRules.{early_rules, together_rules}
use Rattle.hack_rules.specs.MissingSubcommand.{lists_commands, missing_subcommand}
use Rattle.hack_rules.specs.LateRules.{rules_after}
use Rattle.hack_words.specs.Start.{Start, Refuses, Cuts, start_of}

-- what is known besides the command line: the environment's colouring, whether GitHub Actions runs,
-- and rustup's minor version or why it isn't known
pub record Around : Type 0 where
  pub term_color : Option (List ℕ)
  pub github_actions : Bool
  pub rustup : Option ℕ
  pub unknown : Option (List ℕ)

-- the outcome of a command line
pub data CommandLineOutcome : Type 0 where
  Faulty : Fault → CommandLineOutcome
  Printed : Print → CommandLineOutcome
  Listing : List Use → CommandLineOutcome
  Parsed : WorkspaceBehavior → List (List ℕ) → List Use → CommandLineOutcome

-- the outcome of uses of options, given who handles workspaces and the arguments after --: the
-- first rule that gives an error refuses them
abbrev pub outcome_of : Around → WorkspaceBehavior → List (List ℕ) → List Use → CommandLineOutcome
outcome_of around behavior trailing us =
    option_map_or Faulty (first_of (first_of (early_rules around.term_color us)
    ∷ first_of (together_rules behavior us) ∷ []))
    (if lists_commands behavior us then Listing us
    else option_map_or Faulty (first_of (missing_subcommand us ∷ rules_after around.rustup
    (groups_given opt.MutuallyExclusiveFeatures us) behavior trailing us))
    (Parsed behavior trailing us))

-- the outcome, given how parsing ended
abbrev pub IsEnd : Around → WorkspaceBehavior → List (List ℕ) → List Use → Reading → CommandLineOutcome → Type 0
IsEnd around behavior trailing us End outcome = outcome ≡ outcome_of around behavior trailing us
IsEnd around behavior trailing us (Questions print) outcome = outcome ≡ Printed print
IsEnd around behavior trailing us (Fails fault) outcome = outcome ≡ Faulty (Cut fault)
IsEnd around behavior trailing us (Met one left) outcome = ⊥

-- the outcome of a command line, given its start: it is parsed up to the first error or request to
-- print, and then judged
abbrev pub ComesFrom : Around → Start → CommandLineOutcome → Type 0
ComesFrom around (Refuses fault) outcome = outcome ≡ Faulty fault
ComesFrom around (Cuts behavior cut trailing) outcome = (us : List Use) × (end : Reading) × ReadsUsesThen cut us end × IsEnd around behavior trailing us end outcome

-- the outcome of a command line
abbrev pub ComesTo : Around → List (List ℕ) → CommandLineOutcome → Type 0
ComesTo around words outcome = ComesFrom around (start_of words) outcome

-- that unknown features are not ignored everywhere
abbrev pub unknown_words : List ℕ
unknown_words =
    codes "--ignore-unknown-features for --include-features is not fully implemented"
    ++ codes " and may not work as intended"

-- that rustup's version isn't known, for this reason
abbrev pub rustup_words : List ℕ → List ℕ
rustup_words why =
    codes "unable to determine rustup version; assuming latest stable rustup: " ++ why

-- a range rewritten in its new form
abbrev pub new_form : List ℕ → List ℕ
new_form text = option_map_or (λ sides. sides.front ++ codes "..=" ++ sides.back) (at_dots text) text

-- that a range has the old form, with the new one
abbrev pub old_words : List ℕ → List ℕ
old_words newer = codes "using `..` for inclusive range is deprecated; consider using `" ++ newer ++ codes "`"

-- the options that edit manifests while commands run
abbrev pub editing_options : Bool → Bool → List ℕ
editing_options false no_private = codes "--no-private modifies"
editing_options true false = codes "--no-dev-deps modifies"
editing_options true true = codes "--no-dev-deps and --no-private modify"

-- that these options edit manifests while commands run
abbrev pub editing_words : List ℕ → List ℕ
editing_words options =
    options ++ codes " real `Cargo.toml` while cargo-hack is running and restores it when finished"

-- the notice on unknown features, where they are to be ignored and can't be
abbrev pub unknown_notes : List Use → List Note
unknown_notes us =
    note_if (is_given opt.IgnoreUnknownFeatures us && counts opt.IncludeFeatures us)
    QuietWarn unknown_words

-- the notice on rustup's version, where a range is given and the version isn't known
abbrev pub rustup_notes : Bool → Option (List ℕ) → List Note
rustup_notes is_ranged unknown =
    option_map_or (λ why. note_if is_ranged Warn (rustup_words why)) unknown []

-- the notice on the old form of a range
abbrev pub old_notes : Bool → Option (List ℕ) → List Note
old_notes is_old range =
    option_map_or (λ text. note_if is_old Warn (old_words (new_form text))) range []

-- the notice that commands run on edited manifests
abbrev pub editing_notes : Bool → Bool → List Note
editing_notes no_dev_deps no_private =
    note_if (no_dev_deps || no_private) Info
    (editing_words (editing_options no_dev_deps no_private))

-- the notices on an accepted command line, in order
abbrev pub notes_on : Around → List Use → List Note
notes_on around us =
    unknown_notes us
    ++ rustup_notes (has_beside beside.VersionRange us) around.unknown
    ++ old_notes (is_old_asked us) (value_given opt.VersionRange us)
    ++ editing_notes (is_given opt.NoDevDeps us) (is_given opt.NoPrivate us)
