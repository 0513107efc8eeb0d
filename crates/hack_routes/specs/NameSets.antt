-- Sets of texts, and maps from texts, asked for a name.
use Rattle.std.specs.Prelude.{Option, Bool}
use Rattle.std.specs.BTreeSet.{BTreeSet, contains_by}
use Rattle.std.specs.BTreeMap.{BTreeMap, get_by}
use Rattle.std.specs.Cmp.Lexicographic.{slice_cmp}
use Rattle.std.specs.Ordering.{nat_cmp}
use Rattle.std.specs.Borrow.{Bor}
use Rattle.hack_base.specs.Names.{Name}

-- a set of texts
abbrev pub NameSet : Type 0
NameSet = BTreeSet (Bor Name)

-- the set has the name
abbrev pub has_name : NameSet → Name → Bool
has_name s x = contains_by (λ (k : Bor Name). slice_cmp nat_cmp x k.now) s

-- the value that a map from texts has at a name
abbrev pub get_at : {V : Type 0} → BTreeMap (Bor Name) V → Name → Option V
get_at m x = get_by (λ (k : Bor Name). slice_cmp nat_cmp x k.now) m
