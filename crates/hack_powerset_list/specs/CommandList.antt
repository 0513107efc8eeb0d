-- What `powerset-list` writes for a feature map and what is asked for, and its errors.
use Rattle.std.specs.Prelude.{◌≡◌, ◌⊎◌, ℕ, List, [], ◌∷◌, map, length, Option, IfSome, nat_lt, true, false}
use Rattle.std.specs.Io.KnownBytes.{Appends}
use Rattle.hack_base.specs.Writes.{AppendsFront}
use Rattle.hack_base.specs.Names.{Name}
use Rattle.hack_routes.specs.FeatureMap.{FeatureMap}
use Rattle.hack_sets.specs.Sets.{IsListing}
use Rattle.hack_features.specs.Rules.{Choice, IsListed}
use Rattle.hack_plan.specs.declared.runs.RunOptions.{RunOptions}
use Rattle.hack_powerset_list.specs.declared.fault.ListFault.{ListFault}
use Rattle.hack_powerset_list.specs.declared.fault.ListFault.TheVariants.{Usage, Number, Group, NotText, Input, Read, Write, Memory}
use Rattle.hack_powerset_list.specs.declared.wishes.WordsFault.TheVariants as said
use Rattle.hack_plan.specs.Runs.{runs_from}
use Rattle.hack_powerset_list.specs.Words.{Asks, IsAsking, RefusesWords}
use Rattle.hack_powerset_list.specs.Input.{IsMapText, IsNoMapText, keys_of}
use Rattle.hack_powerset_list.specs.Lines.{run_lines}

-- the sets of a package without dependencies are chosen from its features, each a candidate of its own
abbrev pub choice_for : FeatureMap → Option ℕ → List (List Name) → List (List Name) → Choice
choice_for m depth at_least_one_of exclusive = record {
  map = m;
  candidates = map (λ name. name ∷ []) (keys_of m);
  depth = depth;
  at_least_one_of = at_least_one_of;
  exclusive = exclusive;
}

-- how its runs are chosen under `--feature-powerset`: if there are groups that exclude, there is no
-- run with all features, and if there are at-least-one groups, there is no run with no features
abbrev pub options_for : FeatureMap → Option ℕ → List (List Name) → List (List Name) → RunOptions
options_for m depth at_least_one_of exclusive = record {
  powerset = true;
  depth = depth;
  normal = length m;
  optional = 0;
  all_optional_deps = false;
  included = false;
  exclude_all_features = nat_lt 0 (length exclusive);
  exclude_no_default_features = nat_lt 0 (length at_least_one_of);
}

-- the text is the command list of the map: a line for each of its runs, in order
pub record IsCommandList (m : FeatureMap) (depth : Option ℕ) (at_least_one_of exclusive : List (List Name)) (text : List ℕ) : Type 0 where
  pub sets : List (List ℕ)
  pub listing : IsListing (length m) (IsListed (choice_for m depth at_least_one_of exclusive)) sets
  pub lines : text ≡ run_lines (keys_of m) (runs_from (options_for m depth at_least_one_of exclusive) sets)

-- the reader had these bytes left, as far as that is known
abbrev pub IsInput : Option (List ℕ) → List ℕ → Type 0
IsInput left bytes = IfSome left (λ known. known ≡ bytes)

-- the arguments ask for a list, the bytes left are a map, and the text is the map's command list
pub record IsListFor (words : List Name) (left : Option (List ℕ)) (text : List ℕ) : Type 0 where
  pub depth : Option ℕ
  pub at_least_one_of : List (List Name)
  pub exclusive : List (List Name)
  pub asks : Asks words depth at_least_one_of exclusive
  pub bytes : List ℕ
  pub input : IsInput left bytes
  pub m : FeatureMap
  pub read : IsMapText bytes m
  pub list : IsCommandList m depth at_least_one_of exclusive text

-- the list that is asked for was written after what was written before
pub record WritesList (words : List Name) (left old new : Option (List ℕ)) : Type 0 where
  pub text : List ℕ
  pub list : IsListFor words left text
  pub written : Appends old new text

-- arguments and input have no error, and a front of the list that is asked for was written
pub record WritesFront (words : List Name) (left old new : Option (List ℕ)) : Type 0 where
  pub text : List ℕ
  pub list : IsListFor words left text
  pub written : AppendsFront old new text

-- the bytes left are no map
pub record HasNoMap (left : Option (List ℕ)) : Type 0 where
  pub bytes : List ℕ
  pub input : IsInput left bytes
  pub refused : IsNoMapText bytes

-- why no list is written, or only a front of it: the first error in the arguments, or else an error
-- of reading the input or in it, and then nothing was written. An error of writing comes only if
-- arguments and input have no error, and then a front of the list was written. If memory is
-- refused, either nothing was written, or such a front.
abbrev pub RefusesList : List Name → Option (List ℕ) → Option (List ℕ) → Option (List ℕ) → ListFault → Type 0
RefusesList words left old new Usage = RefusesWords words said.Usage × (new ≡ old)
RefusesList words left old new (Number text) = RefusesWords words (said.Number text) × (new ≡ old)
RefusesList words left old new (Group option) = RefusesWords words (said.Group option) × (new ≡ old)
RefusesList words left old new NotText = ⊥
RefusesList words left old new Input = IsAsking words × HasNoMap left × (new ≡ old)
RefusesList words left old new Read = IsAsking words × (new ≡ old)
RefusesList words left old new Write = WritesFront words left old new
RefusesList words left old new Memory = (new ≡ old) ⊎ WritesFront words left old new
