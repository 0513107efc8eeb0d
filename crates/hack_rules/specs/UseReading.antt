-- How arguments are read as uses of options, one after the other.
use Rattle.std.specs.Prelude.{ℕ, ◌≡◌, List, [], ◌∷◌, ◌++◌, ◌==◌, ◌&&◌, ◌||◌, false, Option, Some, None, Result, Ok, Err, codes, if◌then◌else◌, IfSome}
use Rattle.std.specs.Option.{option_map_or, option_zip}
use Rattle.std.specs.Str.{bytes_eq}
use Rattle.hack_lexopt.specs.Cuts.{Flag, LongFlag, ShortFlag, Cut, FlagCut, ValueCut, LeftArguments, next_cut, after_cut, attached_value, after_attached, value_of, after_value, optional_of, unexpected_of}
use Rattle.hack_lexopt.specs.Parsers.{start}
use Rattle.hack_lexopt.specs.declared.fault.LexFault.{LexFault}
use Rattle.hack_options.specs.declared.opt.Opt.{Opt}
use Rattle.hack_options.specs.declared.opt.Opt.TheVariants as opt
use Rattle.hack_options.specs.declared.table.Kind.{Kind}
use Rattle.hack_options.specs.declared.table.Kind.TheVariants as kind
use Rattle.hack_options.specs.Table.{entry_of, meaning_of}
use Rattle.hack_options.specs.Find.{long_option, short_option}
use Rattle.hack_rules.specs.declared.uses.cut.Print.{Print}
use Rattle.hack_rules.specs.declared.uses.cut.Print.TheVariants.{ShortHelp, LongHelp, Version}
use Rattle.hack_rules.specs.declared.uses.cut.Cuts.{Cuts}
use Rattle.hack_rules.specs.declared.uses.cut.Cuts.TheVariants as cuts
use Rattle.hack_rules.specs.declared.uses.fault.CutFault.{CutFault}
use Rattle.hack_rules.specs.Faults.{ArgumentFault, Missing, Unexpected, Repeat, LoneQuote, BehaviorForm, Removed, Similar, argument_fault_of}
use Rattle.hack_rules.specs.Uses.{Use, Known, Unknown, Word, views, is_given, subcommand_of}

-- the result of reading: a use and what is left after it, the end of the arguments, a request to
-- print a text, or an error
pub data Reading : Type 0 where
  Met : Use → LeftArguments → Reading
  End : Reading
  Prints : Print → Reading
  Fails : ArgumentFault → Reading

-- an option that is not in the table, with the rest of its argument; the letters n, q and r (110,
-- 113 and 114) never take it
abbrev pub unknown_option : Flag → LeftArguments → Reading
unknown_option (LongFlag name) left = Met (Unknown (LongFlag name) (attached_value left.untaken)) (after_attached left)
unknown_option (ShortFlag c) left =
    if c == 110 || c == 113 || c == 114 then Met (Unknown (ShortFlag c) None) left
    else Met (Unknown (ShortFlag c) (attached_value left.untaken)) (after_attached left)

-- an option with this value, if it has one
abbrev pub option_with : Opt → Flag → Option (List ℕ) → LeftArguments → Reading
option_with o flag value left = Met (Known (meaning_of o) flag value) (after_value value left)

-- an option that needs its value
abbrev pub option_with_value : Opt → Flag → Option (List ℕ) → LeftArguments → Reading
option_with_value o flag None left = Fails (Missing flag)
option_with_value o flag value left = option_with o flag value left

-- the reading of an option with this list of names, which may not be a lone quote sign
abbrev pub unless_quote : Flag → Option (List ℕ) → Reading → Reading
unless_quote flag value read =
    if option_map_or (λ v. bytes_eq v (codes "'") || bytes_eq v (codes "\"")) value false
    then Fails (LoneQuote flag) else read

-- a request to print a text, if no subcommand came before it; else an option like one that is not
-- in the table
abbrev pub print_request : Print → Option (List ℕ) → Flag → LeftArguments → Reading
print_request print None flag left = Prints print
print_request print (Some subcommand) flag left = unknown_option flag left

-- the short help for the letter, the long one for the name
abbrev pub help_of : Flag → Print
help_of (LongFlag name) = LongHelp
help_of (ShortFlag letter) = ShortHelp

-- an option of the table, read by the value that it takes
abbrev pub by_kind : Kind → List Use → Opt → Flag → LeftArguments → Reading
by_kind kind.Flag us o flag left = Met (Known (meaning_of o) flag None) left
by_kind kind.Value us o flag left = option_with_value o flag (value_of left) left
by_kind kind.Names us o flag left =
    unless_quote flag (value_of left) (option_with_value o flag (value_of left) left)
by_kind kind.OptionalNames us o flag left =
    unless_quote flag (optional_of left) (option_with o flag (optional_of left) left)
by_kind kind.Help us o flag left = print_request (help_of flag) (subcommand_of us) flag left
by_kind kind.Version us o flag left = print_request Version (subcommand_of us) flag left
by_kind kind.Refused us o flag left = Fails BehaviorForm

-- an option of the table: a forbidden repeat is reported before a missing value
abbrev pub known_option : List Use → Opt → Flag → LeftArguments → Reading
known_option us o flag left =
    if (entry_of o).once && is_given (meaning_of o) us then Fails (Repeat flag o (subcommand_of us)) else by_kind (entry_of o).kind us o flag left

-- the option that replaces a removed one of this name
abbrev pub removed_of : List ℕ → Option Opt
removed_of name =
    if bytes_eq name (codes "ignore-non-exist-features") then Some opt.IgnoreUnknownFeatures else (
    if bytes_eq name (codes "skip-no-default-features") then Some opt.ExcludeNoDefaultFeatures else None)

-- the option whose name this one resembles
abbrev pub similar_of : List ℕ → Option Opt
similar_of name =
    if bytes_eq name (codes "no-dev-dep") then Some opt.NoDevDeps else (
    if bytes_eq name (codes "remove-dev-dep") then Some opt.RemoveDevDeps else (
    if bytes_eq name (codes "each-features") then Some opt.EachFeature else (
    if bytes_eq name (codes "features-powerset") then Some opt.FeaturePowerset else (
    if bytes_eq name (codes "exclude-no-default-feature") then Some opt.ExcludeNoDefaultFeatures else (
    if bytes_eq name (codes "exclude-all-feature") then Some opt.ExcludeAllFeatures else (
    if bytes_eq name (codes "include-dep-features") || bytes_eq name (codes "include-dep-feature") || bytes_eq name (codes "include-deps-feature") then Some opt.IncludeDepsFeatures else (
    if bytes_eq name (codes "ignore-unknown-feature") then Some opt.IgnoreUnknownFeatures else None)))))))

-- a name that is not in the table, given the option that replaces it and the one that it resembles
abbrev pub other : Option Opt → Option Opt → List Use → List ℕ → LeftArguments → Reading
other (Some instead) meant us name left = Fails (Removed name instead)
other None (Some meant) us name left = Fails (Similar name meant (subcommand_of us))
other None None us name left = unknown_option (LongFlag name) left

-- the result of an item after these uses
abbrev pub of_cut : List Use → Cut → LeftArguments → Reading
of_cut us (FlagCut (LongFlag name)) left =
    option_map_or (λ o. known_option us o (LongFlag name) left) (long_option name)
    (other (removed_of name) (similar_of name) us name left)
of_cut us (FlagCut (ShortFlag letter)) left =
    option_map_or (λ o. known_option us o (ShortFlag letter) left) (short_option letter)
    (unknown_option (ShortFlag letter) left)
of_cut us (ValueCut word) left = Met (Word word) left

-- the result of the next item, or of its refusal where the option before it did not take a value
abbrev pub of_next : Result (Option Cut) LexFault → List Use → LeftArguments → Reading
of_next (Err fault) us left =
    option_map_or (λ p. Fails (Unexpected p.0 p.1)) (option_zip left.option (unexpected_of left.untaken)) End
of_next (Ok None) us left = End
of_next (Ok (Some cut)) us left = of_cut us cut (after_cut left)

-- what is read next after these uses
abbrev pub read_of : List Use → LeftArguments → Reading
read_of us left = of_next (next_cut left) us left

-- after the uses `before`, these are read from old, one after another, and leave new
abbrev pub Reads : List Use → LeftArguments → List Use → LeftArguments → Type 0
Reads before old [] new = new ≡ old
Reads before old (u ∷ us) new = (mid : LeftArguments) × (read_of before old ≡ Met u mid) × Reads (before ++ u ∷ []) mid us new

-- these uses are read from the arguments, and then r
abbrev pub ReadsUsesThen : List (List ℕ) → List Use → Reading → Type 0
ReadsUsesThen words us r = (left : LeftArguments) × Reads [] (start words) us left × (read_of us left ≡ r)

-- the outcome of the arguments: all their uses, a request to print a text, or the first parse
-- error; or memory ran out
abbrev pub GivesUses : Result Cuts CutFault → List (List ℕ) → Type 0
GivesUses (Ok (cuts.Uses us)) words = ReadsUsesThen words (views us.items) End
GivesUses (Ok (cuts.Asks print)) words = (us : List Use) × ReadsUsesThen words us (Prints print)
GivesUses (Err e) words = IfSome (argument_fault_of e) (λ fault. (us : List Use) × ReadsUsesThen words us (Fails fault))

-- a reading after which no use is read
abbrev pub IsLast : Reading → Type 0
IsLast (Met u left) = ⊥
IsLast End = Unit
IsLast (Prints print) = Unit
IsLast (Fails fault) = Unit

-- the answer says that these uses were read, and then the end; or that something else was, r; or memory
-- ran out
abbrev pub ReturnsUses : Result Cuts CutFault → List Use → Reading → Type 0
ReturnsUses (Ok (cuts.Uses us)) vs r = (views us.items ≡ vs) × (r ≡ End)
ReturnsUses (Ok (cuts.Asks print)) vs r = r ≡ Prints print
ReturnsUses (Err e) vs r = IfSome (argument_fault_of e) (λ fault. r ≡ Fails fault)

-- the answer is right about any outcome of the arguments: after a parse error, no uses are returned
abbrev pub GivesNoOther : Result Cuts CutFault → List (List ℕ) → Type 0
GivesNoOther answer words = (us : List Use) → (r : Reading) → ReadsUsesThen words us r → IsLast r → ReturnsUses answer us r
