-- What a `Rules` shows: the choice that it was made for, and what its tables answer.
use Rattle.std.specs.Prelude.{ℕ, List, Bool, ◌&&◌, length}
use Rattle.hack_features.specs.declared.rules.Rules.{Rules}
use Rattle.hack_features.specs.declared.tally.Tally.{Tally}
use Rattle.hack_samples.specs.Sets.{rows_of}
use Rattle.hack_features.specs.Rules.{Choice}
pub use Rattle.hack_features.specs.ChoiceView.{choice, choice_in}
use Rattle.hack_features.specs.Tables.{keeps_depth, is_lean, is_exclusive, is_required}

-- the choice that the rules were made for
abbrev pub choice_of : Rules → Choice
choice_of r = choice_in r.given

-- how many candidates the rules have
abbrev pub size_of : Rules → ℕ
size_of r = length r.given.features.now

-- how many questions the rules were asked
abbrev pub questions_asked : Rules → ℕ
questions_asked r = r.asked

-- how many questions a tally says that rules were asked
abbrev pub asked_in : Tally → ℕ
asked_in t = t.count

-- whether a set is permitted, as the tables answer it
abbrev pub may_of : Rules → List ℕ → Bool
may_of r s = keeps_depth r.given.depth s && (is_exclusive (rows_of r.tables.hits.items) s && is_lean (rows_of r.tables.spares.items) s)

-- whether a set serves each at-least-one group, as the tables answer it
abbrev pub whole_of : Rules → List ℕ → Bool
whole_of r s = is_required (rows_of r.tables.serves.items) s
