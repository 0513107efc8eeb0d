use Rattle.std.proofs.Common.{◌≡◌, ◌==◌, true, false, arith}
use Rattle.std.proofs.lemmas.Grind.{common_steps}
use Rattle.std.proofs.lemmas.Bool.Decides.{nat_tests}
use Rattle.toml_parser.specs.Lexical.{first}
use Rattle.hack_manifest.proofs.PairLemmas.{passed-atom, passed-array, some-weaker}
use Rattle.hack_manifest.proofs.plain.behind_value.Goals as goal

pub returns-then-first-eq91 : goal.returns-then-first-eq91
returns-then-first-eq91 c =
    let bracket : (first c.args.s.now == 91) ≡ true = grind (arith, nat_tests, common_steps) in
    some-weaker c.behind_items.result _ _ (λ rest h. passed-array 79 c.args.s.now rest.now bracket (rw c.skip.ensures.rest at h) (omega (arith, c.skip.ensures.shorter))) c.behind_items.ensures

pub returns-else-first-eq123 : goal.returns-else-first-eq123
returns-else-first-eq123 c =
    let a : (first c.args.s.now == 91) ≡ false = grind (arith, nat_tests, common_steps) in
    let b : (first c.args.s.now == 123) ≡ false = grind (arith, nat_tests, common_steps) in
    some-weaker c.behind_atom.result _ _ (λ rest h. passed-atom 80 c.args.s.now rest.now a b h) c.behind_atom.ensures.value
