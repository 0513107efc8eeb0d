use Rattle.std.proofs.Common.{◌≡◌, ◌==◌, true, false, Some, drop, arith, sym, ap, ◌∙◌}
use Rattle.std.proofs.lemmas.Grind.{common_steps}
use Rattle.std.proofs.lemmas.Bool.Decides.{nat_tests}
use Rattle.toml_parser.specs.Lexical.{first}
use Rattle.hack_manifest.proofs.PairLemmas.{plain-text}
use Rattle.hack_manifest.proofs.plain.behind_plain_text.Goals as goal

pub returns-then-first-quote-2-clause-value : goal.returns-then-first-quote-2-clause-value
returns-then-first-quote-2-clause-value c =
    let quote : c.first-quote.result ≡ first c.args.s.now = c.first-quote.ensures in
    let inside : c.skip-inside.result.now ≡ drop 1 c.args.s.now = c.skip-inside.ensures.rest in
    let rest = rw (quote, inside) at c.behind_plain-rest.ensures.rest in
    let closing : (first c.behind_plain-rest.result.now == first c.args.s.now) ≡ true = grind (arith, nat_tests, common_steps) in
    let other : (first c.skip-inside.result.now == first c.args.s.now) ≡ false = grind (arith, nat_tests, common_steps) in
    plain-text c.args.s.now c.behind_plain-rest.result.now c.requires rest closing (rw inside at other) ∙ ap Some (sym c.skip.ensures.rest)
