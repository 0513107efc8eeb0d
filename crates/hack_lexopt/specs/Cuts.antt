-- How a list of arguments is split into options, apart from the parser that does it.
use Rattle.std.specs.Prelude.{ℕ, List, [], ◌∷◌, ◌++◌, ◌&&◌, not, length, drop, take, Bool, Option, Some, None, Result, Ok, Err, option_map, slice_get, nat_lt, nat_eq, encode_utf8, codes, if◌then◌else◌}
use Rattle.std.specs.List.{find, starts_with}
use Rattle.std.specs.Option.{is_none, is_some, option_map_or, option_or, unwrap_or}
use Rattle.std.specs.Str.{chars}
use Rattle.hack_base.specs.Cuts.{front_of, rest_of}
use Rattle.hack_base.specs.PathTexts.{without_front}
use Rattle.hack_lexopt.specs.declared.fault.LexFault.{LexFault}
use Rattle.hack_lexopt.specs.declared.fault.LexFault.TheVariants.{UnexpectedValue}

-- an option as it was written: the name after its --, or the letter after its -
pub data Flag : Type 0 where
  LongFlag : List ℕ → Flag
  ShortFlag : ℕ → Flag

-- one item: an option, or an argument that is none
pub data Cut : Type 0 where
  FlagCut : Flag → Cut
  ValueCut : List ℕ → Cut

-- the unread part of the last argument: nothing, the value after the = of a long option, or the
-- remaining letters of a chain
pub data Untaken : Type 0 where
  Nothing : Untaken
  Pending : List ℕ → Untaken
  Chain : List ℕ → Untaken

-- what a parser has left to read, and the last option that it has read
pub record LeftArguments : Type 0 where
  pub option : Option Flag
  pub untaken : Untaken
  pub words : List (List ℕ)

-- an option with its dashes
abbrev pub flag_text : Flag → List ℕ
flag_text (LongFlag name) = codes "--" ++ name
flag_text (ShortFlag letter) = codes "-" ++ encode_utf8 letter

-- an item as it was written
abbrev pub as_written : Cut → List ℕ
as_written (FlagCut flag) = flag_text flag
as_written (ValueCut word) = word

-- the item, where it is an option
abbrev pub option_in : Cut → Option Flag
option_in (FlagCut flag) = Some flag
option_in (ValueCut word) = None

-- the letters after the first letter
abbrev pub chain_of : List ℕ → Untaken
chain_of [] = Nothing
chain_of (b ∷ bs) = Chain (b ∷ bs)

-- the first letter of a chain
abbrev pub first_letter : List ℕ → ℕ
first_letter letters = unwrap_or (slice_get (chars letters) 0) 0

-- what remains of a chain after its first letter
abbrev pub after_letter : List ℕ → Untaken
after_letter letters = chain_of (drop (length (encode_utf8 (first_letter letters))) letters)

-- a long option begins with --
abbrev pub is_long : List ℕ → Bool
is_long word = starts_with nat_eq word (codes "--")

-- a chain begins with - and is longer
abbrev pub is_chain : List ℕ → Bool
is_chain word = starts_with nat_eq word (codes "-") && nat_lt 1 (length word)

-- an argument that is no option
abbrev pub is_plain_word : List ℕ → Bool
is_plain_word word = not (is_long word) && not (is_chain word)

-- the first item of an argument; the name of a long option ends before its first = (61)
abbrev pub cut_of : List ℕ → Cut
cut_of word =
    if is_long word then FlagCut (LongFlag (front_of 61 (drop 2 word)))
    else if is_chain word then FlagCut (ShortFlag (first_letter (drop 1 word))) else ValueCut word

-- what the first item leaves unread of an argument
abbrev pub untaken_of : List ℕ → Untaken
untaken_of word =
    if is_long word then option_map_or Pending (rest_of 61 (drop 2 word)) Nothing
    else if is_chain word then after_letter (drop 1 word) else Nothing

-- a value that nobody took, because of which the next item is refused
abbrev pub unexpected_of : Untaken → Option (List ℕ)
unexpected_of (Pending value) = Some value
unexpected_of (Chain letters) =
    if starts_with nat_eq letters (codes "=") then Some (drop 1 letters) else None
unexpected_of Nothing = None

-- the next item: a letter of the chain, or the first of the next argument; a value that nobody took
-- is refused
abbrev pub next_cut : LeftArguments → Result (Option Cut) LexFault
next_cut left =
    if is_some (unexpected_of left.untaken) then Err UnexpectedValue else Ok (go left.untaken left.words)
  where
    go : Untaken → List (List ℕ) → Option Cut
    go (Chain letters) words = Some (FlagCut (ShortFlag (first_letter letters)))
    go untaken words = option_map cut_of (slice_get words 0)

-- what remains once no more of the argument is read
abbrev pub after_attached : LeftArguments → LeftArguments
after_attached left = record { option = left.option; untaken = Nothing; words = left.words }

-- what the next item leaves; after a refusal, the parser is at the next argument
abbrev pub after_cut : LeftArguments → LeftArguments
after_cut left =
    if is_some (unexpected_of left.untaken) then after_attached left else go left.untaken left.words
  where
    go : Untaken → List (List ℕ) → LeftArguments
    go (Chain letters) words =
        record left { option = Some (ShortFlag (first_letter letters)); untaken = after_letter letters }
    go untaken [] = after_attached left
    go untaken (w ∷ ws) = record { option = option_in (cut_of w); untaken = untaken_of w; words = ws }

-- the part of the argument that serves as a value: the text after an =, or the rest of a chain
-- without one leading =
abbrev pub attached_value : Untaken → Option (List ℕ)
attached_value (Pending value) = Some value
attached_value (Chain letters) = Some (without_front (codes "=") letters)
attached_value Nothing = None

-- the value of an option: the attached one, else the next argument whatever it is
abbrev pub value_of : LeftArguments → Option (List ℕ)
value_of left = option_or (attached_value left.untaken) (slice_get left.words 0)

-- a value that may be left out: the attached one, else the next argument unless that is an option
abbrev pub optional_of : LeftArguments → Option (List ℕ)
optional_of left = option_or (attached_value left.untaken) (find is_plain_word (take 1 left.words))

-- what remains after this value, or none: an argument goes with a value that wasn't attached
abbrev pub after_value : Option (List ℕ) → LeftArguments → LeftArguments
after_value value left = record (after_attached left) {
  words = if is_some value && is_none (attached_value left.untaken) then drop 1 left.words else left.words;
}
