-- The order of features.
use Rattle.std.specs.Prelude.{◌≡◌, ℕ, List, []}
use Rattle.std.specs.declared.cmp.Ordering.{Ordering}
use Rattle.std.specs.Ordering.{nat_cmp, on, then_cmp}
use Rattle.std.specs.Cmp.Lexicographic.{slice_cmp}
use Rattle.hack_base.specs.Names.{Name, names_of}
use Rattle.hack_features.specs.Feature.{name_of}
use Rattle.hack_features.specs.declared.feature.Feature.{Feature}
use Rattle.hack_features.specs.declared.feature.Feature.TheVariants.{Normal, Group, Path}

-- the place of a feature's variant among the variants
abbrev pub variant_of : Feature → ℕ
variant_of (Normal name) = 0
variant_of (Group name list) = 1
variant_of (Path name slash) = 2

-- the names in the list of a group; another feature has none
abbrev pub list_of : Feature → List Name
list_of (Normal name) = []
list_of (Group name list) = names_of list.items
list_of (Path name slash) = []

-- the place of the slash in the text of a dependency's feature; another feature has none
abbrev pub slash_of : Feature → ℕ
slash_of (Normal name) = 0
slash_of (Group name list) = 0
slash_of (Path name slash) = slash

-- two features by variant, then by name, then by the list of a group, then by the place of the slash
abbrev pub feature_order : Feature → Feature → Ordering
feature_order = then_cmp (on variant_of nat_cmp) (then_cmp (on name_of (slice_cmp nat_cmp)) (then_cmp (on list_of (slice_cmp (slice_cmp nat_cmp))) (on slash_of nat_cmp)))

-- two features have the same variant and the same fields
pub record AreSame (f g : Feature) : Type 0 where
  pub variant : variant_of f ≡ variant_of g
  pub name : name_of f ≡ name_of g
  pub list : list_of f ≡ list_of g
  pub slash : slash_of f ≡ slash_of g
