use Rattle.std.proofs.Common.{◌≡◌, ◌==◌, ◌<◌, ◌≤◌, length, Some, true, false, rules, arith, ◌∙◌, sym, ap}
use Rattle.std.proofs.lemmas.Grind.{common_steps}
use Rattle.std.proofs.lemmas.Bool.Decides.{nat_tests}
use Rattle.toml_parser.specs.Lexical.{first, skip_blank}
use Rattle.toml.specs.Parse.{val, atom, after_element}
use Rattle.hack_manifest.specs.Internal.{rest_of_read}
use Rattle.hack_manifest.proofs.PairLemmas.{passed-start, passed-more, passed-end, passed-atom}
use Rattle.hack_manifest.proofs.plain.behind_items.Goals as goal

pub items-init : goal.items-init
items-init c = record { utf8 = c.utf8.s; passed = passed-start (val 79) c.args.s.now }

pub returns-then-first-eq93 : goal.returns-then-first-eq93
returns-then-first-eq93 c =
    let start : c.skip_blank-start.result.now ≡ skip_blank c.items.rest.now = c.skip_blank-start.ensures.rest in
    let closing : (first (skip_blank c.items.rest.now) == 93) ≡ true = rw (← start) (grind (arith, nat_tests, c.first.ensures, c.if-first-eq93.true)) in
    λ n room found. passed-end (val 79) c.args.s.now c.items.rest.now c.items.invariant.passed closing n room found ∙ ap Some (rw (← start) (sym c.skip.ensures.rest))

pub items-preserved : goal.items-preserved
items-preserved c =
    let start : c.skip_blank-start.result.now ≡ skip_blank c.items.rest.now = c.skip_blank-start.ensures.rest in
    let other : (first c.skip_blank-start.result.now == 93) ≡ false = grind (arith, nat_tests, common_steps) in
    let bracket : (first c.skip_blank-start.result.now == 91) ≡ false = grind (arith, nat_tests, common_steps) in
    let brace : (first c.skip_blank-start.result.now == 123) ≡ false = grind (arith, nat_tests, common_steps) in
    let read : rest_of_read (atom c.skip_blank-start.result.now) ≡ Some c.in-Some.after.now = rw c.in-Some.is at c.behind_atom.ensures.value in
    let value : rest_of_read (val 79 c.skip_blank-start.result.now) ≡ Some c.in-Some.after.now = passed-atom 79 _ _ bracket brace read in
    let element : after_element 93 c.in-Some.after.now ≡ Some c.in-Some-behind_item.next.now = rw c.in-Some-behind_item.is at c.behind_item.ensures.value in
    let shorter : length c.in-Some.after.now < length c.skip_blank-start.result.now = rw c.in-Some.is at c.behind_atom.ensures.shorter in
    let within : length c.in-Some-behind_item.next.now ≤ length c.in-Some.after.now = rw c.in-Some-behind_item.is at c.behind_item.ensures.within in
    record {
      utf8 = search rules;
      passed = passed-more (val 79) c.args.s.now c.items.rest.now c.in-Some.after.now c.in-Some-behind_item.next.now c.items.invariant.passed (rw (← start) other) (rw (← start) value) element (omega (arith, c.skip_blank-start.ensures.within));
    }
