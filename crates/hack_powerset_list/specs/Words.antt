-- What the arguments of `powerset-list` ask for, and why they are refused.
use Rattle.std.specs.Prelude.{◌≡◌, ◌⊎◌, ℕ, List, [], ◌∷◌, ◌++◌, Option, None, Some, All, Contains, map, codes, bytes_eq, string_bytes, option_and_then, if◌then◌else◌}
use Rattle.hack_base.specs.Names.{Name}
use Rattle.hack_base.specs.Numbers.{IsNumber}
use Rattle.hack_base.specs.Lists.{HasSeparator, group_names}
use Rattle.hack_powerset_list.specs.declared.fault.ListFault.{ListFault}
use Rattle.hack_powerset_list.specs.declared.fault.ListFault.TheVariants as list
use Rattle.hack_powerset_list.specs.declared.wishes.WordsFault.{WordsFault}
use Rattle.hack_powerset_list.specs.declared.wishes.WordsFault.TheVariants.{Usage, Number, Group, Memory}

-- the values of the options, as they are written; if an option may be repeated, all in order
pub record Written : Type 0 where
  pub depth : Option Name
  pub at_least_one_of : List Name
  pub exclusive : List Name

-- no option is written
abbrev pub none_written : Written
none_written = record { depth = None; at_least_one_of = []; exclusive = [] }

-- with a depth; None if one was written already
abbrev pub with_depth : Written → Name → Option Written
with_depth w value = if_first w.depth (record w { depth = Some value })
  where
    if_first : Option Name → Written → Option Written
    if_first None more = Some more
    if_first (Some depth) more = None

-- with the value of an option; None if there is no such option, or the value is a second depth
abbrev pub with_option_value : Written → Name → Name → Option Written
with_option_value w option value = if bytes_eq option (codes "--depth") then with_depth w value
    else if bytes_eq option (codes "--at-least-one-of") then Some (record w { at_least_one_of = w.at_least_one_of ++ value ∷ [] })
    else if bytes_eq option (codes "--mutually-exclusive-features") then Some (record w { exclusive = w.exclusive ++ value ∷ [] })
    else None

-- with what the arguments say, each option and then its value; None if they break the usage
abbrev pub with_words : Written → List Name → Option Written
with_words w [] = Some w
with_words w (option ∷ []) = None
with_words w (option ∷ value ∷ words) = option_and_then (λ more. with_words more words) (with_option_value w option value)

-- the depth that is written, if any, is this number
abbrev pub IsDepth : Option Name → Option ℕ → Type 0
IsDepth None depth = depth ≡ None
IsDepth (Some text) depth = (n : ℕ) × IsNumber 64 text n × (depth ≡ Some n)

-- a depth is written, as this text, which is no number
pub record IsNoDepth (depth : Option Name) (text : Name) : Type 0 where
  pub written : depth ≡ Some text
  pub bad : (n : ℕ) → IsNumber 64 text n → ⊥

-- each list has a separator, and the groups are the names of the lists
pub record AreGroups (lists : List Name) (groups : List (List Name)) : Type 0 where
  pub separated : All HasSeparator lists
  pub named : groups ≡ map group_names lists

-- some list has no separator
pub record LacksSeparator (lists : List Name) : Type 0 where
  pub list : Name
  pub listed : Contains lists list
  pub single : ¬ HasSeparator list

-- what the arguments ask for
pub record Asks (words : List Name) (depth : Option ℕ) (at_least_one_of exclusive : List (List Name)) : Type 0 where
  pub written : Written
  pub said : with_words none_written words ≡ Some written
  pub depth_of : IsDepth written.depth depth
  pub exclusive_of : AreGroups written.exclusive exclusive
  pub at_least_of : AreGroups written.at_least_one_of at_least_one_of

-- the arguments are accepted: they ask for something
pub record IsAsking (words : List Name) : Type 0 where
  pub depth : Option ℕ
  pub at_least_one_of : List (List Name)
  pub exclusive : List (List Name)
  pub asks : Asks words depth at_least_one_of exclusive

-- a list of exclusive features lacks a separator, or if none does, an at-least-one list does
abbrev pub IsSeparatorFault : Written → Name → Type 0
IsSeparatorFault w option = ((option ≡ codes "--mutually-exclusive-features") × LacksSeparator w.exclusive)
    ⊎ ((option ≡ codes "--at-least-one-of") × All HasSeparator w.exclusive × LacksSeparator w.at_least_one_of)

-- the arguments keep the usage, and a depth in them is no number
pub record IsNumberFault (words : List Name) (text : Name) : Type 0 where
  pub written : Written
  pub said : with_words none_written words ≡ Some written
  pub depth_of : IsNoDepth written.depth text

-- the arguments keep the usage, a depth is a number, and a list of this option is the first error
pub record IsOptionListFault (words : List Name) (option : Name) : Type 0 where
  pub written : Written
  pub said : with_words none_written words ≡ Some written
  pub depth : Option ℕ
  pub depth_of : IsDepth written.depth depth
  pub fault : IsSeparatorFault written option

-- why arguments are refused: the first of these errors that applies
abbrev pub RefusesWords : List Name → WordsFault → Type 0
RefusesWords words Usage = with_words none_written words ≡ None
RefusesWords words (Number text) = IsNumberFault words (string_bytes text)
RefusesWords words (Group option) = IsOptionListFault words option.now
RefusesWords words Memory = Unit {0}

-- an error in the arguments as an error of the list
abbrev pub list_fault : WordsFault → ListFault
list_fault Usage = list.Usage
list_fault (Number text) = list.Number text
list_fault (Group option) = list.Group option
list_fault Memory = list.Memory
