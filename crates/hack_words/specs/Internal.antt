-- What only private functions of the crate promise each other.
use Rattle.std.specs.Prelude.{◌≡◌, ℕ, List, [], Result, Ok, Err, IfSome, MatchOption, string_bytes, true, false, not, None, codes, length, nat_lt, if◌then◌else◌}
use Rattle.std.specs.List.{filter}
use Rattle.std.specs.Option.{option_map_or}
use Rattle.hack_rules.specs.declared.uses.behavior.WorkspaceBehavior.TheVariants.{Cargo, Default}
use Rattle.hack_words.specs.declared.cli.args.Args.{Args}
use Rattle.hack_words.specs.declared.cli.args.Read.{Read}
use Rattle.hack_rules.specs.declared.uses.behavior.WorkspaceBehavior.{WorkspaceBehavior}
use Rattle.hack_lexopt.specs.Cuts.{LongFlag}
use Rattle.hack_rules.specs.Faults.{ArgumentFault as CutFault, Repeat}
use Rattle.hack_rules.specs.UseReading.{ReadsUsesThen, End, Prints, Fails}
use Rattle.hack_rules.specs.Uses.{Use, views}
use Rattle.hack_rules.specs.declared.uses.cut.Cuts.{Cuts}
use Rattle.hack_rules.specs.declared.uses.cut.Cuts.TheVariants as cuts
use Rattle.hack_rules.specs.declared.uses.cut.Print.{Print}
use Rattle.hack_base.specs.Notes.{Note}
use Rattle.hack_rules.specs.declared.fault.CliFault.{CliFault}
use Rattle.hack_rules.specs.declared.fault.CliFault.TheVariants as fault
use Rattle.hack_words.specs.declared.cli.parse.Checked.{Checked}
use Rattle.hack_words.specs.declared.cli.parse.Surroundings.{Surroundings}
use Rattle.hack_words.specs.declared.cli.parse.Parsed.{Parsed as CodeParsed}
use Rattle.hack_words.specs.declared.cli.parse.Parsed.TheVariants as code
use Rattle.hack_words.specs.ArgsView.{IsAsked}
use Rattle.hack_rules.specs.AskedFields.{coloring_asked}
use Rattle.hack_rules.specs.ListsView.{AreListsOf}
use Rattle.hack_rules.specs.Values.{from_value}
use Rattle.hack_base.specs.Numbers.{number_of}
use Rattle.hack_words.specs.CommandLine.{Around, Faulty, Listing, Parsed, outcome_of, unknown_notes, notes_on}
use Rattle.hack_rules.specs.CliFaults.{fault_of, Cut}
use Rattle.hack_rules.specs.LateView.{IsLate}
use Rattle.hack_words.specs.ParseAnswers.{IsText, around_of}
use Rattle.hack_base.specs.Names.{names_of}
use Rattle.hack_options.specs.declared.opt.Opt.TheVariants as opt
use Rattle.hack_words.specs.declared.cli.start.Front.{Front}
use Rattle.hack_words.specs.Start.{is_behavior}

-- what the rules read is carried over unchanged
pub record Carries (read : Read) (args : Args) : Type 0 where
  pub trailing_args : args.trailing_args ≡ read.call.trailing
  pub workspace_behavior : args.workspace_behavior ≡ read.call.behavior
  pub coloring : args.coloring ≡ read.early.coloring
  pub depth : args.depth ≡ read.early.depth
  pub version_range : args.version_range ≡ read.late.versions.range
  pub version_step : args.version_step ≡ read.late.versions.step
  pub log_group : args.log_group ≡ read.late.log_group
  pub partition : args.partition ≡ read.late.partition
  pub allow_together : args.allow_together ≡ read.late.lifts
  pub strength : args.strength ≡ read.late.strength
  pub parallel : args.parallel ≡ read.late.parallel
  pub most_runs : args.most_runs ≡ read.late.most_runs

-- the same, from the code's record
abbrev pub around_in : Surroundings → Around
around_in around = around_of around.env.now around.rustup.now

-- the rules return the outcome, and what they read
abbrev pub Judges : Result Checked CliFault → Around → WorkspaceBehavior → List (List ℕ) → List Use → Type 0
Judges (Ok read) around behavior trailing us =
    (outcome_of around behavior trailing us
    ≡ option_map_or (λ late. Parsed behavior trailing us) read.late (Listing us))
    × (read.early.coloring ≡ coloring_asked around.term_color us)
    × (read.early.depth ≡ from_value opt.Depth (number_of 64) us)
    × AreListsOf us read.early.lists
    × IfSome read.late (IsLate around.github_actions us)
Judges (Err e) around behavior trailing us = MatchOption (fault_of e) (e ≡ fault.Memory) (λ told. outcome_of around behavior trailing us ≡ Faulty told)

-- the answer to uses that are judged, with its notices
abbrev pub IsJudged : Around → WorkspaceBehavior → List (List ℕ) → List Use → CodeParsed → List Note → Type 0
IsJudged around behavior trailing us (code.Args args) notes =
    (outcome_of around behavior trailing us ≡ Parsed behavior trailing us) × IsAsked around.term_color around.github_actions behavior trailing us args × (notes ≡ notes_on around us)
IsJudged around behavior trailing us code.List notes = (outcome_of around behavior trailing us ≡ Listing us) × (notes ≡ unknown_notes us)
IsJudged around behavior trailing us (code.Print text) notes = ⊥

-- the answer to a command line that asks for a text
abbrev pub IsPrinted : Print → CodeParsed → List Note → Type 0
IsPrinted print (code.Print text) notes = IsText print (string_bytes text) × (notes ≡ [])
IsPrinted print (code.Args args) notes = ⊥
IsPrinted print code.List notes = ⊥

-- the parsed uses of options, or a parse error as an error of the call
abbrev pub GivesCuts : Result Cuts CliFault → List (List ℕ) → Type 0
GivesCuts (Ok (cuts.Uses us)) words = ReadsUsesThen words (views us.items) End
GivesCuts (Ok (cuts.Asks print)) words = (us : List Use) × ReadsUsesThen words us (Prints print)
GivesCuts (Err e) words = MatchOption (fault_of e) (e ≡ fault.Memory) (λ told. (us : List Use) × (cut : CutFault) × (told ≡ Cut cut) × ReadsUsesThen words us (Fails cut))

-- what the code takes out of the arguments before --, or the error that the argument is repeated
abbrev pub TakesOut : Result Front CliFault → List (List ℕ) → Type 0
TakesOut (Ok taken) front =
    (nat_lt 1 (length (filter is_behavior front)) ≡ false)
    × (taken.behavior ≡ (if nat_lt 0 (length (filter is_behavior front)) then Cargo else Default))
    × (names_of taken.words.items ≡ filter (λ w. not (is_behavior w)) front)
TakesOut (Err e) front = MatchOption (fault_of e) (e ≡ fault.Memory) (λ told. (nat_lt 1 (length (filter is_behavior front)) ≡ true) × (told ≡ Cut (Repeat (LongFlag (codes "workspace-behavior")) opt.WorkspaceBehavior None)))
