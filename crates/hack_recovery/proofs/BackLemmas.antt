-- A call that brings its edits back asks for none that stay, whatever rustup answers.
use Rattle.std.proofs.Common.{◌≡◌, ◌∙◌, ◌||◌, Bool, true, false, List, [], ◌∷◌, ap, refl, sym}
use Rattle.std.specs.Prelude.{Option, Some, None, if◌then◌else◌}
use Rattle.std.specs.Option.{option_map_or}
use Rattle.hack_base.specs.Names.{Name}
use Rattle.hack_rules.specs.CliFaults.{Fault}
use Rattle.hack_rules.specs.CliLists.{groups_given}
use Rattle.hack_rules.specs.Rules.{first_of}
use Rattle.hack_rules.specs.EarlyRules.{early_rules, together_rules}
use Rattle.hack_rules.specs.MissingSubcommand.{lists_commands, missing_subcommand}
use Rattle.hack_rules.specs.LateRules.{rules_after}
use Rattle.hack_run.specs.TemporaryEdits.{RestoresEdits}
use Rattle.hack_rules.proofs.One.{ends-one}
use Rattle.hack_rules.specs.UseReading.{End, Fails, IsLast, Met, Prints, Reading}
use Rattle.hack_options.specs.declared.opt.Opt.TheVariants as opt
use Rattle.hack_rules.specs.Uses.{Use, is_given}
use Rattle.hack_rules.specs.declared.uses.behavior.WorkspaceBehavior.{WorkspaceBehavior}
use Rattle.hack_words.specs.ParseAnswers.{around_of}
use Rattle.hack_words.specs.CommandLine.{Around, ComesFrom, ComesTo, Faulty, IsEnd, Listing, Parsed}
use Rattle.hack_words.specs.Start.{Cuts, Refuses, Start, start_of}
use Rattle.hack_words.specs.declared.cli.env.Env.{Env}
use Rattle.hack_words.specs.declared.cli.parse.Parsed.TheVariants as answer
use Rattle.hack_words.specs.declared.cli.edits.Edits.{Edits}
use Rattle.hack_words.specs.declared.cli.edits.Edits.TheVariants as edits
use Rattle.hack_recovery.specs.AskedEdits.{AsksForEdits}
use Rattle.hack_versions.specs.declared.rustup.Rustup.TheVariants.{Unasked}
use Rattle.hack_recovery.specs.AskedEdits.Asks.{parsed, faulty}

-- parsed arguments are those of the uses that broke no rule
accepted : (behavior b : WorkspaceBehavior) (trailing t : List Name) (found us : List Use) (early late : Option Fault) (lists : Bool) → Parsed b t us ≡ option_map_or Faulty early (if lists then Listing found else option_map_or Faulty late (Parsed behavior trailing found)) → us ≡ found
accepted behavior b trailing t found us (Some fault) late lists e = cc
accepted behavior b trailing t found us None late true e = cc
accepted behavior b trailing t found us None (Some fault) false e = cc
accepted behavior b trailing t found us None None false e = cc

-- parsed arguments are those of all uses
end_uses : (around : Around) (behavior b : WorkspaceBehavior) (trailing t : List Name) (found us : List Use) (r : Reading) → IsEnd around behavior trailing found r (Parsed b t us) → (us ≡ found) × IsLast r
end_uses around behavior b trailing t found us (Met one left) h = absurd h
end_uses around behavior b trailing t found us End h =
    let early = first_of (first_of (early_rules around.term_color found) ∷ first_of (together_rules behavior found) ∷ []) in
    let late = first_of (missing_subcommand found ∷ rules_after around.rustup (groups_given opt.MutuallyExclusiveFeatures found) behavior trailing found) in
    (accepted behavior b trailing t found us early late (lists_commands behavior found) h, tt)
end_uses around behavior b trailing t found us (Prints print) h = cc
end_uses around behavior b trailing t found us (Fails cut) h = cc

from_uses : (one other : Around) (start : Start) (b c : WorkspaceBehavior) (t u : List Name) (us vs : List Use) → ComesFrom one start (Parsed b t us) → ComesFrom other start (Parsed c u vs) → us ≡ vs
from_uses one other (Refuses fault) b c t u us vs h k = cc
from_uses one other (Cuts behavior cut trailing) b c t u us vs h k =
    let f = end_uses one behavior b trailing t h.0 us h.1 h.3 in
    let g = end_uses other behavior c trailing u k.0 vs k.1 k.3 in
    f.0 ∙ (ends-one cut h.0 k.0 h.1 k.1 h.2 f.1 k.2 g.1).0 ∙ sym g.0

-- whatever is known of rustup, accepted arguments have the same uses
pub same_uses : (one other : Around) (words : List Name) (b c : WorkspaceBehavior) (t u : List Name) (us vs : List Use) → ComesTo one words (Parsed b t us) → ComesTo other words (Parsed c u vs) → us ≡ vs
same_uses one other words b c t u us vs h k = from_uses one other (start_of words) b c t u us vs h k

not_permanent : (restores removes leaves : Bool) → edits.Temporary ≡ (if restores then edits.Restore else (if removes then edits.Permanent else (if leaves then edits.Temporary else edits.None))) → removes ≡ false
not_permanent true removes leaves e = cc
not_permanent false false leaves e = refl
not_permanent false true leaves e = cc

unedited : {X : Type 0} (does : Edits) (path : Option Name) → does ≡ edits.Temporary → ◌≡◌ {A = Edits × Option Name} (does, path) (edits.None, None) → X
unedited does path back is = let no : edits.Temporary ≡ edits.None = sym back ∙ ap (λ p. p.0) is in absurd (cc)

pub back_restores : (env : Env) (words : List Name) (does : Edits) (path : Option Name) → AsksForEdits env words does path → does ≡ edits.Temporary → RestoresEdits env words
back_restores env words does path (parsed (answer.Args args) notes h is) back rustup (answer.Args more) told k =
    let same = same_uses (around_of env rustup) (around_of env Unasked) words k.0 h.0 k.1 h.1 k.2 h.2 k.3 h.3 in
    k.4.flags.remove_dev_deps ∙ ap (λ (us : List Use). is_given opt.RemoveDevDeps us) same ∙ sym h.4.flags.remove_dev_deps ∙ not_permanent args.restore args.remove_dev_deps (args.no_dev_deps || args.no_private) (sym back ∙ ap (λ p. p.0) is)
back_restores env words does path (parsed (answer.Args args) notes h is) back rustup (answer.Print text) told k = tt
back_restores env words does path (parsed (answer.Args args) notes h is) back rustup answer.List told k = tt
back_restores env words does path (parsed (answer.Print text) notes h is) back rustup read told k = unedited does path back is
back_restores env words does path (parsed answer.List notes h is) back rustup read told k = unedited does path back is
back_restores env words does path (faulty fault h is) back rustup read told k = unedited does path back is
