-- What `Closures` shows.
use Rattle.std.specs.Prelude.{ℕ, List, Bool}
use Rattle.hack_conflicts.specs.declared.rules.Rules.{Rules as SearchRules}
use Rattle.hack_features.specs.Rules.{Choice}
use Rattle.hack_features.specs.View.{choice_of}
use Rattle.hack_closures.specs.declared.closures.Closures.{Closures}

-- the choice whose listed sets are built
abbrev pub choice_in : Closures → Choice
choice_in k = choice_of k.rules.now

-- the candidates of the first positions
abbrev pub alone_in : Closures → List ℕ
alone_in k = k.alone.items

-- whether one more position is that of all features
abbrev pub has_all : Closures → Bool
has_all k = k.all

-- the rules of the search
abbrev pub search_of : Closures → SearchRules
search_of k = k.search
