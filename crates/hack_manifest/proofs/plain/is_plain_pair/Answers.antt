use Rattle.std.proofs.Common.{◌≡◌, Some, sym, ◌∙◌}
use Rattle.toml_parser.specs.Lexical.{skip_blank}
use Rattle.toml.specs.Parse.{skip_bom, key_equals, val}
use Rattle.hack_manifest.specs.Internal.{rest_of_read}
use Rattle.hack_manifest.proofs.PairLemmas.{plain-stands}
use Rattle.hack_manifest.proofs.plain.is_plain_pair.Goals as goal

pub returns-in-Some-behind_value : goal.returns-in-Some-behind_value
returns-in-Some-behind_value c = λ over.
    let named : rest_of_read (key_equals (skip_blank (skip_bom c.args.text.now))) ≡ Some c.in-Some.value.now =
    rw (← c.skip_mark.ensures, ← c.skip_blank-start.ensures.rest) (rw c.in-Some.is at c.behind_key.ensures) in
    let read : rest_of_read (val 80 c.in-Some.value.now) ≡ Some c.in-Some-behind_value.rest.now = rw c.in-Some-behind_value.is at c.behind_value.ensures in
    plain-stands c.args.text.now c.in-Some.value.now c.in-Some-behind_value.rest.now named read (sym c.is_over.ensures ∙ over)
