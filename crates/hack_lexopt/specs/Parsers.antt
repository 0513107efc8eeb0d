-- What a parser has left to read, according to its fields.
use Rattle.std.specs.Prelude.{◌≡◌, ℕ, List, drop, map, string_bytes, Option, Some, None, Result, Ok, Err}
use Rattle.std.specs.Borrow.{MutBor, Fml}
use Rattle.std.specs.Io.BufRead.{Rests}
use Rattle.hack_lexopt.specs.declared.cuts.Unread.{Unread}
use Rattle.hack_lexopt.specs.declared.cuts.Spot.{Spot}
use Rattle.hack_lexopt.specs.declared.cuts.Unread.TheVariants.{Closed, Value as Behind, Letters}
use Rattle.hack_lexopt.specs.declared.parser.Parser.{Parser}
use Rattle.hack_lexopt.specs.declared.arg.Arg.{Arg}
use Rattle.hack_lexopt.specs.declared.arg.Arg.TheVariants.{Long, Short, Value}
use Rattle.hack_lexopt.specs.declared.arg.Flag.{Flag as CodeFlag}
use Rattle.hack_lexopt.specs.declared.arg.Flag.TheVariants as code
use Rattle.hack_lexopt.specs.declared.parser.Next.{Next}
use Rattle.hack_lexopt.specs.declared.parser.Next.TheVariants as next
use Rattle.hack_lexopt.specs.declared.fault.LexFault.{LexFault}
use Rattle.hack_lexopt.specs.declared.fault.LexFault.TheVariants.{UnexpectedValue}
use Rattle.hack_lexopt.specs.contracts.parser.Parser.{the_row}
use Rattle.hack_lexopt.specs.Cuts.{Untaken, Nothing, Pending, Chain, LeftArguments, Flag, LongFlag, ShortFlag, Cut, FlagCut, ValueCut, cut_of, option_in, next_cut, unexpected_of}

-- what the rest of an argument leaves unread
abbrev pub untaken_rest : Unread → List ℕ → Untaken
untaken_rest Closed bytes = Nothing
untaken_rest Behind bytes = Pending bytes
untaken_rest Letters bytes = Chain bytes

-- what a spot leaves unread of its argument
abbrev pub untaken_at : Spot → List ℕ → Untaken
untaken_at spot word = untaken_rest spot.place (drop spot.at word)

-- the last option that was read of an argument: the letter of a chain, or the long name
abbrev pub option_at : Option ℕ → List ℕ → Option Flag
option_at (Some letter) word = Some (ShortFlag letter)
option_at None word = option_in (cut_of word)

-- what a parser has left to read
abbrev pub left_in : Parser → LeftArguments
left_in p = record { option = option_at p.spot.letter (string_bytes p.word); untaken = untaken_at p.spot (string_bytes p.word); words = map string_bytes p.words.items }

-- a parser that has read nothing
abbrev pub start : List (List ℕ) → LeftArguments
start words = record { option = None; untaken = Nothing; words = words }

-- the item that an `Arg` represents
abbrev pub cut_in : Arg → Cut
cut_in (Long name) = FlagCut (LongFlag name.now)
cut_in (Short letter) = FlagCut (ShortFlag letter)
cut_in (Value word) = ValueCut word.now

-- the result of a read, with the item that its `Arg` represents
abbrev pub cut_seen : Result (Option Arg) LexFault → Result (Option Cut) LexFault
cut_seen (Ok (Some arg)) = Ok (Some (cut_in arg))
cut_seen (Ok None) = Ok None
cut_seen (Err fault) = Err fault

-- the option that the code's value represents
abbrev pub flag_in : CodeFlag → Flag
flag_in (code.Long name) = LongFlag name.now
flag_in (code.Short letter) = ShortFlag letter

-- what comes next: an item, the end, or a value of the option before that nobody took
abbrev pub IsNext : LeftArguments → Next → Type 0
IsNext left_in (next.Cut arg) = next_cut left_in ≡ Ok (Some (cut_in arg))
IsNext left_in next.End = next_cut left_in ≡ Ok None
IsNext left_in (next.Refused option value) =
    (next_cut left_in ≡ Err UnexpectedValue) × (left_in.option ≡ Some (flag_in option))
    × (unexpected_of left_in.untaken ≡ Some value.now)

-- what remains once the returned reference is no longer used
abbrev pub LeavesToRead : MutBor Parser → LeftArguments → Fml
LeavesToRead p l = Rests the_row p (λ new. left_in new ≡ l)
