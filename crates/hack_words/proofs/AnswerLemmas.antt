-- What a command line leads to once its uses of options are judged.
use Rattle.std.proofs.Common.{◌≡◌, ℕ, Bool, true, false, cond, List, Option, Some, None, Err, IfSome, MatchOption, ap, refl, sym, subst, ◌∙◌}
use Rattle.std.specs.Option.{option_map_or, option_or}
use Rattle.hack_rules.specs.declared.uses.behavior.WorkspaceBehavior.{WorkspaceBehavior}
use Rattle.hack_rules.specs.Faults.{ArgumentFault as WrongCut, argument_fault_of as cut_fault_of}
use Rattle.hack_rules.specs.declared.uses.fault.CutFault.{CutFault}
use Rattle.hack_rules.specs.declared.uses.fault.CutFault.TheVariants as cut
use Rattle.hack_rules.specs.UseReading.{ReadsUsesThen, Reading, Met, End, Prints, Fails, IsLast}
use Rattle.hack_rules.specs.Uses.{Use}
use Rattle.hack_rules.specs.declared.uses.cut.Print.{Print as Question}
use Rattle.hack_base.specs.Notes.{Note}
use Rattle.hack_words.specs.ParseAnswers.{AnswersCommandLine, Refuses, BreakNoRule}
use Rattle.hack_words.specs.Internal.{IsJudged, IsPrinted, GivesCuts}
use Rattle.hack_words.specs.CommandLine.{Around, CommandLineOutcome, IsEnd, ComesFrom, ComesTo, Faulty, outcome_of}
use Rattle.hack_rules.specs.CliFaults.{Fault, Cut, fault_of, told_of_cut}
use Rattle.hack_rules.specs.declared.fault.CliFault.{CliFault}
use Rattle.hack_rules.specs.declared.fault.CliFault.TheVariants as fault
use Rattle.hack_words.specs.Start.{Start, Refuses as Begun, Cuts, start_of}
use Rattle.hack_rules.proofs.One.{ends-one}
use Rattle.hack_words.specs.declared.cli.parse.Parsed.{Parsed}
use Rattle.hack_words.specs.declared.cli.parse.Parsed.TheVariants as code

pub judged-answers : (around : Around) (behavior : WorkspaceBehavior) (cut trailing : List (List ℕ)) (us : List Use) (parsed : Parsed) (notes : List Note) → ReadsUsesThen cut us End → IsJudged around behavior trailing us parsed notes → AnswersCommandLine around (ComesFrom around (Cuts behavior cut trailing)) parsed notes
judged-answers around behavior cut trailing us (code.Args args) notes ends h = (behavior, trailing, us, (us, End, ends, sym h.0), h.1, h.2)
judged-answers around behavior cut trailing us (code.Print text) notes ends h = absurd h
judged-answers around behavior cut trailing us code.List notes ends h = (us, (us, End, ends, sym h.0), h.1)

pub printed-answers : (around : Around) (behavior : WorkspaceBehavior) (cut trailing : List (List ℕ)) (us : List Use) (print : Question) (parsed : Parsed) (notes : List Note) → ReadsUsesThen cut us (Prints print) → IsPrinted print parsed notes → AnswersCommandLine around (ComesFrom around (Cuts behavior cut trailing)) parsed notes
printed-answers around behavior cut trailing us print (code.Args args) notes ends h = absurd h
printed-answers around behavior cut trailing us print (code.Print text) notes ends h = (print, (us, Prints print, ends, refl), h.0, h.1)
printed-answers around behavior cut trailing us print code.List notes ends h = absurd h

-- a parse error, as the call reports it
pub cut-told : (words : List (List ℕ)) (e : CutFault) → IfSome (cut_fault_of e) (λ wrong. (us : List Use) × ReadsUsesThen words us (Fails wrong)) → GivesCuts (Err (told_of_cut e)) words
cut-told words cut.Memory h = refl
cut-told words (cut.Missing flag) h = (h.0, _, refl, h.1)
cut-told words (cut.Unexpected flag value) h = (h.0, _, refl, h.1)
cut-told words (cut.Repeat flag option subcommand) h = (h.0, _, refl, h.1)
cut-told words (cut.LoneQuote flag) h = (h.0, _, refl, h.1)
cut-told words cut.BehaviorForm h = (h.0, _, refl, h.1)
cut-told words (cut.Removed name instead) h = (h.0, _, refl, h.1)
cut-told words (cut.Similar name meant subcommand) h = (h.0, _, refl, h.1)

pub cut-refuses : (around : Around) (behavior : WorkspaceBehavior) (cut trailing : List (List ℕ)) (Q : Type 0) (o : Option Fault) → MatchOption o Q (λ fault. (us : List Use) × (f : WrongCut) × (fault ≡ Cut f) × ReadsUsesThen cut us (Fails f)) → MatchOption o Q (λ fault. ComesFrom around (Cuts behavior cut trailing) (Faulty fault))
cut-refuses around behavior cut trailing Q (Some fault) h = (h.0, Fails h.1, h.3, ap Faulty h.2)
cut-refuses around behavior cut trailing Q None h = h

judged-refuses : (around : Around) (behavior : WorkspaceBehavior) (cut trailing : List (List ℕ)) (us : List Use) (Q : Type 0) (o : Option Fault) → ReadsUsesThen cut us End → MatchOption o Q (λ fault. outcome_of around behavior trailing us ≡ Faulty fault) → MatchOption o Q (λ fault. ComesFrom around (Cuts behavior cut trailing) (Faulty fault))
judged-refuses around behavior cut trailing us Q (Some fault) ends h = (us, End, ends, sym h)
judged-refuses around behavior cut trailing us Q None ends h = h

pub fault-refuses : (around : Around) (behavior : WorkspaceBehavior) (cut trailing : List (List ℕ)) (us : List Use) (e : CliFault) → ReadsUsesThen cut us End → MatchOption (fault_of e) (e ≡ fault.Memory) (λ told. outcome_of around behavior trailing us ≡ Faulty told) → Refuses (ComesFrom around (Cuts behavior cut trailing)) e
fault-refuses around behavior cut trailing us e ends h = judged-refuses around behavior cut trailing us (e ≡ fault.Memory) (fault_of e) ends h

-- the outcome by the errors of the rules, the earlier ones first, and by whether the list is asked for
abbrev pub by_rules : Option Fault → Bool → Option Fault → Option Fault → CommandLineOutcome → CommandLineOutcome → CommandLineOutcome
by_rules early lists missing after listing parsed =
    option_map_or Faulty early (cond lists listing (option_map_or Faulty (option_or missing after) parsed))

-- where no earlier rule is broken, the list is the outcome, or the error of a missing subcommand, or that of a later rule
pub listing-outcome : (early : Option Fault) (lists : Bool) (missing after : Option Fault) (listing parsed : CommandLineOutcome) → early ≡ None → lists ≡ true → by_rules early lists missing after listing parsed ≡ listing
listing-outcome early lists missing after listing parsed e l = rw (e, l) refl

pub missing-refused : (o : Option Fault) (Q : Type 0) (early : Option Fault) (lists : Bool) (missing after : Option Fault) (listing parsed : CommandLineOutcome) → early ≡ None → MatchOption o Q (λ told. cond lists None missing ≡ Some told) → MatchOption o Q (λ told. by_rules early lists missing after listing parsed ≡ Faulty told)
missing-refused (Some told) Q early true missing after listing parsed e h = absurd (let none : None ≡ Some told = h in cc)
missing-refused (Some told) Q early false missing after listing parsed e h =
    ap (λ x. by_rules x false missing after listing parsed) e ∙ ap (λ x. by_rules None false x after listing parsed) h
missing-refused None Q early lists missing after listing parsed e h = h

at-late : (early : Option Fault) (lists : Bool) (missing after : Option Fault) (listing parsed : CommandLineOutcome) → early ≡ None → lists ≡ false → cond lists None missing ≡ None → by_rules early lists missing after listing parsed ≡ option_map_or Faulty after parsed
at-late early true missing after listing parsed e l m = absurd (let t : true ≡ false = l in cc)
at-late early false missing after listing parsed e l m =
    ap (λ x. by_rules x false missing after listing parsed) e ∙ ap (λ x. by_rules None false x after listing parsed) m

pub late-refused : (o : Option Fault) (Q : Type 0) (early : Option Fault) (lists : Bool) (missing after : Option Fault) (listing parsed : CommandLineOutcome) → early ≡ None → lists ≡ false → cond lists None missing ≡ None → MatchOption o Q (λ told. after ≡ Some told) → MatchOption o Q (λ told. by_rules early lists missing after listing parsed ≡ Faulty told)
late-refused (Some told) Q early lists missing after listing parsed e l m h = at-late early lists missing after listing parsed e l m ∙ ap (λ x. option_map_or Faulty x parsed) h
late-refused None Q early lists missing after listing parsed e l m h = h

pub parsed-outcome : (early : Option Fault) (lists : Bool) (missing after : Option Fault) (listing parsed : CommandLineOutcome) → early ≡ None → lists ≡ false → cond lists None missing ≡ None → after ≡ None → by_rules early lists missing after listing parsed ≡ parsed
parsed-outcome early lists missing after listing parsed e l m a = at-late early lists missing after listing parsed e l m ∙ ap (λ x. option_map_or Faulty x parsed) a

-- a command line has one outcome

end-last : (around : Around) (behavior : WorkspaceBehavior) (trailing : List (List ℕ)) (us : List Use) (r : Reading) (o : CommandLineOutcome) → IsEnd around behavior trailing us r o → IsLast r
end-last around behavior trailing us (Met one left) o h = h
end-last around behavior trailing us End o h = tt
end-last around behavior trailing us (Prints print) o h = tt
end-last around behavior trailing us (Fails cut) o h = tt

end-one : (around : Around) (behavior : WorkspaceBehavior) (trailing : List (List ℕ)) (us : List Use) (r : Reading) (a b : CommandLineOutcome) → IsEnd around behavior trailing us r a → IsEnd around behavior trailing us r b → a ≡ b
end-one around behavior trailing us (Met one left) a b h k = absurd h
end-one around behavior trailing us End a b h k = h ∙ sym k
end-one around behavior trailing us (Prints print) a b h k = h ∙ sym k
end-one around behavior trailing us (Fails cut) a b h k = h ∙ sym k

from-one : (around : Around) (start : Start) (a b : CommandLineOutcome) → ComesFrom around start a → ComesFrom around start b → a ≡ b
from-one around (Begun told) a b h k = h ∙ sym k
from-one around (Cuts behavior cut trailing) a b h k =
    let one = ends-one cut h.0 k.0 h.1 k.1 h.2 (end-last around behavior trailing h.0 h.1 a h.3) k.2 (end-last around behavior trailing k.0 k.1 b k.3) in
    let at_us = subst (λ us. IsEnd around behavior trailing us k.1 b) (sym one.0) k.3 in
    let at_end = subst (λ r. IsEnd around behavior trailing h.0 r b) (sym one.1) at_us in
    end-one around behavior trailing h.0 h.1 a b h.3 at_end

pub outcome-one : (around : Around) (words : List (List ℕ)) (a b : CommandLineOutcome) → ComesTo around words a → ComesTo around words b → a ≡ b
outcome-one around words a b = from-one around (start_of words) a b

-- an answer is never an error
pub answers-never : (around : Around) (words : List (List ℕ)) (parsed : Parsed) (notes : List Note) → AnswersCommandLine around (ComesTo around words) parsed notes → BreakNoRule around words
answers-never around words (code.Args args) notes h told k = absurd (let e = outcome-one around words _ _ h.3 k in cc e)
answers-never around words code.List notes h told k = absurd (let e = outcome-one around words _ _ h.1 k in cc e)
answers-never around words (code.Print text) notes h told k = absurd (let e = outcome-one around words _ _ h.1 k in cc e)
