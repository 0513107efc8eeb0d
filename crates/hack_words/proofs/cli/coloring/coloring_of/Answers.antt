use Rattle.std.proofs.Common.{◌≡◌, Ok, map, string_bytes, subst}
use Rattle.std.proofs.lemmas.Result.{err_from_is_err_and}
use Rattle.hack_base.specs.Names.{names_of, optional_text}
use Rattle.hack_rules.specs.CliFaults.{fault_of}
use Rattle.hack_rules.specs.declared.fault.CliFault.TheVariants as fault
use Rattle.hack_rules.specs.declared.uses.cut.Cuts.{Cuts}
use Rattle.hack_words.specs.Internal.{GivesCuts}
use Rattle.hack_words.proofs.ColoringLemmas.{cut-colors, question-colors}
use Rattle.hack_words.proofs.cli.coloring.coloring_of.Goals as goal

pub returns-in_err-uses-clause-err : goal.returns-in_err-uses-clause-err
returns-in_err-uses-clause-err c =
    let start = c.in_ok-front.field-0 in
    let p = err_from_is_err_and c.from_residual-in_err-uses.result c.from_residual-in_err-uses.ensures.1 in
    rw (p.1, p.2) (cut-colors (optional_text c.args.env.now.term_color) (names_of c.args.words.now) start.behavior (names_of start.words.items) (names_of start.trailing.items) (c.in_err-uses.field-0.0 ≡ fault.Memory) (fault_of c.in_err-uses.field-0.0) c.in_ok-front.ensures c.in_err-uses.ensures)

pub returns-in-Asks-clause-ok : goal.returns-in-Asks-clause-ok
returns-in-Asks-clause-ok c =
    let start = c.in_ok-front.field-0 in
    let asked = subst (λ (cuts : Cuts). GivesCuts (Ok cuts) (map string_bytes start.words.items)) c.in-Asks.is c.in_ok-uses.ensures in
    question-colors (optional_text c.args.env.now.term_color) (names_of c.args.words.now) start.behavior (names_of start.words.items) (names_of start.trailing.items) asked.0 c.in-Asks.field-0 c.in_ok-front.ensures asked.1
