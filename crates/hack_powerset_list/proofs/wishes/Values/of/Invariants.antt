use Rattle.std.proofs.Common.{◌≡◌, length}
use Rattle.hack_base.specs.Names.{names_of}
use Rattle.hack_powerset_list.specs.Words.{none_written, with_words}
use Rattle.hack_powerset_list.specs.InternalWishesView.{written_in}
use Rattle.hack_powerset_list.proofs.wishes.Values.of.Given as goal

-- the arguments say what the values so far and the arguments that are left say
abbrev pub invariant-loop-left : goal.invariant-loop-left
invariant-loop-left l = with_words none_written (names_of l.words) ≡ with_words (written_in l.values) (names_of l.left)

abbrev pub decreases-loop-left : goal.decreases-loop-left
decreases-loop-left l = length l.left
