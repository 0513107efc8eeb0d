-- What the steps return by which packages are chosen.
use Rattle.std.specs.Prelude.{ℕ, List, [], ◌∷◌, Bool, true, false, not, ◌&&◌, if◌then◌else◌, string_bytes}
use Rattle.hack_base.specs.Names.{Name}
use Rattle.hack_planner.specs.declared.fault.PackagesFault.{PackagesFault}
use Rattle.hack_planner.specs.declared.fault.PackagesFault.TheVariants.{Memory, Unmatched}
use Rattle.hack_planner.specs.Members.{Member, IsMatched, IsFirstUnmatched}

-- one of the specifications matches the member, or, if false is given, none does
abbrev pub IsMatchedAs : Bool → List Name → Member → Type 0
IsMatchedAs true specs m = IsMatched specs m
IsMatchedAs false specs m = ¬ IsMatched specs m

-- the error has the first of the specifications that matches no member
abbrev pub IsNamedFault : List Member → List Name → PackagesFault → Type 0
IsNamedFault members specs Memory = ⊥
IsNamedFault members specs (Unmatched spec) = IsFirstUnmatched members specs (string_bytes spec)

-- the place of a member that isn't skipped
abbrev pub kept_place : Bool → Member → List ℕ
kept_place ignored m = if not (ignored && m.is_private) then m.place ∷ [] else []
