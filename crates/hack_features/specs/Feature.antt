-- What a feature is: its text and its names.
use Rattle.std.specs.Prelude.{◌≡◌, ℕ, List, [], ◌∷◌, ◌++◌, length, string_bytes, map}
use Rattle.std.specs.List.{join_with_byte}
use Rattle.std.specs.Borrow.{Bor}
use Rattle.hack_base.specs.Names.{Name, names_of}
use Rattle.hack_features.specs.declared.feature.Feature.{Feature}
use Rattle.hack_features.specs.declared.feature.Feature.TheVariants.{Normal, Group, Path}

-- the text of a feature
abbrev pub name_of : Feature → Name
name_of (Normal name) = string_bytes name
name_of (Group name list) = string_bytes name
name_of (Path name slash) = string_bytes name

-- the names of a feature: those in the list of a group, else its own
abbrev pub group_of : Feature → List Name
group_of (Group name list) = names_of list.items
group_of feature = name_of feature ∷ []

-- for each of these features its names
abbrev pub groups_of : List Feature → List (List Name)
groups_of features = map group_of features

-- the same for references to features
abbrev pub candidates_of : List (Bor Feature) → List (List Name)
candidates_of features = map (λ feature. group_of feature.now) features

-- a feature as `Debug` shows it: a group in brackets
abbrev pub shown_as : Feature → List ℕ
shown_as (Group name list) = (91 ∷ string_bytes name) ++ 93 ∷ []
shown_as feature = name_of feature

-- a feature of that name
abbrev pub IsNormal : Name → Feature → Type 0
IsNormal text (Normal name) = string_bytes name ≡ text
IsNormal text feature = ⊥

-- a group of these names, whose text is the names joined by commas
abbrev pub IsGroup : List Name → Feature → Type 0
IsGroup names (Group name list) = (string_bytes name ≡ join_with_byte 44 names) × (names_of list.items ≡ names)
IsGroup names feature = ⊥

-- the feature of a dependency, whose text joins both names by a slash at the stated place
abbrev pub IsPath : Name → Name → Feature → Type 0
IsPath parent text (Path name slash) = (string_bytes name ≡ parent ++ (47 ∷ text)) × (slash ≡ length parent)
IsPath parent text feature = ⊥
