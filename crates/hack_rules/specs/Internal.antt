-- What only private functions of the crate promise each other.
use Rattle.std.specs.Prelude.{◌≡◌, ℕ, List, Option, None, Some, String, map, string_bytes, [], ◌∷◌, Result, Ok, Err, IfSome}
use Rattle.hack_base.specs.Numbers.{number_of}
use Rattle.hack_features.specs.declared.feature.Feature.{Feature}
use Rattle.hack_features.specs.Feature.{group_of}
use Rattle.hack_rules.specs.CliLists.{Lift, lift_of}
use Rattle.hack_rules.specs.LateRules.{number_within}
use Rattle.std.specs.BTreeSet.{insert_key}
use Rattle.std.specs.String.{string_cmp}
use Rattle.hack_lexopt.specs.Cuts.{LeftArguments}
use Rattle.hack_rules.specs.declared.uses.cut.NextUse.{NextUse}
use Rattle.hack_rules.specs.declared.uses.cut.NextUse.TheVariants as code
use Rattle.hack_rules.specs.declared.uses.fault.CutFault.{CutFault}
use Rattle.hack_rules.specs.Faults.{argument_fault_of}
use Rattle.hack_rules.specs.Uses.{view}
use Rattle.hack_rules.specs.UseReading.{End, Fails, Met, Prints, Reading}

-- the package and the group of a lift
abbrev pub lift_in : {Y : Type 0} → String Y × Feature → Lift
lift_in pair = record { owner = string_bytes pair.0; group = group_of pair.1 }

-- the number that a text is, not greater than another where there is one
abbrev pub number_up_to : Option ℕ → List ℕ → Option ℕ
number_up_to None = number_of 64
number_up_to (Some most) = number_within most

-- these are the lifts that the texts are read as, one for each
abbrev pub AreReadAs : {Y Z : Type 0} → List (String Y) → List (String Z × Feature) → Type 0
AreReadAs texts pairs = map (λ text. lift_of (string_bytes text)) texts ≡ map (λ pair. Some (lift_in pair)) pairs

-- the keys of a set with these texts inserted one after another
abbrev pub put_all : {Y : Type 0} → List (String Y) → List (String Y) → List (String Y)
put_all keys [] = keys
put_all keys (text ∷ texts) = put_all (insert_key string_cmp keys text) texts

-- one step reads r and leaves the parser as new; or memory ran out
abbrev pub ReturnsStep : Result NextUse CutFault → LeftArguments → Reading → Type 0
ReturnsStep (Ok (code.Met u)) new r = r ≡ Met (view u) new
ReturnsStep (Ok code.End) new r = r ≡ End
ReturnsStep (Ok (code.Asks print)) new r = r ≡ Prints print
ReturnsStep (Err e) new r = IfSome (argument_fault_of e) (λ fault. r ≡ Fails fault)
