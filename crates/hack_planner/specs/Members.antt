-- The members of a workspace, and which of them a call runs on.
use Rattle.std.specs.Prelude.{◌≡◌, ◌==◌, ◌++◌, ℕ, List, [], ◌∷◌, Bool, true, false, not, ◌&&◌, Option, Contains, map, filter, length}
use Rattle.std.specs.List.{Any, find, list_any}
use Rattle.std.specs.Option.{option_map_or, option_to_list}
use Rattle.std.specs.Str.{bytes_eq}
use Rattle.hack_base.specs.Names.{Name, names_of}
use Rattle.hack_metadata.specs.Records.{PackageRecord}
use Rattle.hack_pkgids.specs.PackageSpecs.{Identity, Matches}
use Rattle.hack_words.specs.declared.cli.args.Args.{Args}

-- a member of a workspace: its place in the metadata, its record, and whether it is private
pub record Member : Type 0 where
  pub place : ℕ
  pub pkg : PackageRecord
  pub is_private : Bool

-- what specifications of a package are matched with
abbrev pub identity : PackageRecord → Identity
identity p = record { name = p.name; version = p.version; id = p.id }

-- one of the specifications matches the member
abbrev pub IsMatched : List Name → Member → Type 0
IsMatched specs m = Any (Matches (identity m.pkg)) specs

-- the specification matches one of the members
abbrev pub MatchesSome : List Member → Name → Type 0
MatchesSome members spec = Any (λ m. Matches (identity m.pkg) spec) members

-- one of the members has the name
abbrev pub is_called : List Member → Name → Bool
is_called members name = list_any (λ m. bytes_eq m.pkg.name name) members

-- f of each of the items for which P holds, in their order
pub data Collects {X Y : Type 0} (P : X → Type 0) (f : X → Y) : List X → List Y → Type 0 where
  ends : Collects P f [] []
  taken : {x : X} {xs : List X} {ys : List Y} → P x → Collects P f xs ys → Collects P f (x ∷ xs) (f x ∷ ys)
  left : {x : X} {xs : List X} {ys : List Y} → ¬ P x → Collects P f xs ys → Collects P f (x ∷ xs) ys

-- those of the members for which P holds, in their order
abbrev pub SelectsMembers : (Member → Type 0) → List Member → List Member → Type 0
SelectsMembers P members kept = Collects P (λ m. m) members kept

-- each of the specifications matches one of the members
abbrev pub AllMatch : List Member → List Name → Type 0
AllMatch members specs = (spec : Name) → Contains specs spec → MatchesSome members spec

-- the specification is the first that matches no member
pub record IsFirstUnmatched (members : List Member) (specs : List Name) (spec : Name) : Type 0 where
  pub before : List Name
  pub behind : List Name
  pub whole : specs ≡ before ++ spec ∷ behind
  pub matched : AllMatch members before
  pub unmatched : ¬ MatchesSome members spec

-- the call names packages, and not the whole workspace
abbrev pub names_some : Args → Bool
names_some args = not args.workspace && not (length args.«package».items == 0)

-- the call names packages, and this is the first specification that matches none
abbrev pub IsUnmatched : Args → List Member → Name → Type 0
IsUnmatched args members spec =
    (names_some args ≡ true) × IsFirstUnmatched members (names_of args.«package».items) spec

-- the members that a call without names is about: all of the workspace, or the first with the name of the current one
abbrev pub members_without_names : Bool → Option Name → List Member → List Member
members_without_names true current members = members
members_without_names false current members = option_map_or
    (λ name. option_to_list (find (λ m. bytes_eq m.pkg.name name) members)) current members

-- the members that a call is about, before some are left out: those that it names, if any
abbrev pub IsAbout : Bool → Args → Option Name → List Member → List Member → Type 0
IsAbout true args current members about =
    SelectsMembers (IsMatched (names_of args.«package».items)) members about
IsAbout false args current members about =
    about ≡ members_without_names args.workspace current members

-- the member is private, and private ones are ignored
abbrev pub is_skipped : Args → Member → Bool
is_skipped args m = args.ignore_private && m.is_private

-- the members that a call is about, without the excluded
pub record AreRemaining (args : Args) (current : Option Name) (members remaining : List Member)
    : Type 0 where
  pub about : List Member
  pub is_about : IsAbout (names_some args) args current members about
  pub remain : SelectsMembers (λ m. ¬ IsMatched (names_of args.exclude.items) m) about remaining

-- the packages that a call runs on, by their places: those that remain, without private ones if these are ignored
pub record IsPackageList (args : Args) (current : Option Name) (members : List Member)
    (places : List ℕ) : Type 0 where
  pub remaining : List Member
  pub left : AreRemaining args current members remaining
  pub chosen : places ≡ map (λ m. m.place) (filter (λ m. not (is_skipped args m)) remaining)
