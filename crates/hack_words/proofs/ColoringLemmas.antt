-- The colouring that is asked for where a command line can't be parsed.
use Rattle.std.proofs.Common.{◌≡◌, ℕ, List, Option, Some, None, MatchOption, refl, sym, subst}
use Rattle.hack_rules.specs.Faults.{ArgumentFault as WrongCut}
use Rattle.hack_rules.specs.UseReading.{ReadsUsesThen, Prints, Fails}
use Rattle.hack_rules.specs.Uses.{Use}
use Rattle.hack_rules.specs.declared.uses.behavior.WorkspaceBehavior.{WorkspaceBehavior}
use Rattle.hack_rules.specs.declared.uses.cut.Print.{Print as Question}
use Rattle.hack_rules.specs.CliFaults.{Fault, Cut}
use Rattle.hack_term.specs.declared.term.Coloring.TheVariants.{Auto}
use Rattle.hack_words.specs.AskedColoring.{AsksColoring, ColorsFrom}
use Rattle.hack_words.specs.Start.{Start, Cuts, start_of}

-- where an argument can't be cut
pub cut-colors : (term_color : Option (List ℕ)) (words : List (List ℕ)) (behavior : WorkspaceBehavior) (cut trailing : List (List ℕ)) (Q : Type 0) (o : Option Fault) → start_of words ≡ Cuts behavior cut trailing
    → MatchOption o Q (λ fault. (us : List Use) × (f : WrongCut) × (fault ≡ Cut f) × ReadsUsesThen cut us (Fails f)) → MatchOption o Q (λ told. AsksColoring term_color words Auto)
cut-colors term_color words behavior cut trailing Q (Some fault) begun h = subst (λ (s : Start). ColorsFrom term_color s Auto) (sym begun) (h.0, Fails h.1, h.3, refl)
cut-colors term_color words behavior cut trailing Q None begun h = h

-- where a text is asked for
pub question-colors : (term_color : Option (List ℕ)) (words : List (List ℕ)) (behavior : WorkspaceBehavior) (cut trailing : List (List ℕ)) (us : List Use) (print : Question) → start_of words ≡ Cuts behavior cut trailing
    → ReadsUsesThen cut us (Prints print) → AsksColoring term_color words Auto
question-colors term_color words behavior cut trailing us print begun h = subst (λ (s : Start). ColorsFrom term_color s Auto) (sym begun) (us, Prints print, h, refl)
