use Rattle.std.proofs.Common.{◌≡◌, ◌==◌, true, arith, sym, ap, ◌∙◌}
use Rattle.std.proofs.lemmas.Grind.{common_steps}
use Rattle.std.proofs.lemmas.Bool.Decides.{nat_tests}
use Rattle.toml_parser.specs.Lexical.{first, is_bare, split_while, skip_ws}
use Rattle.hack_manifest.proofs.PairLemmas.{bare-key}
use Rattle.hack_manifest.proofs.plain.behind_bare_key.Goals as goal

pub returns-then-first-eq61 : goal.returns-then-first-eq61
returns-then-first-eq61 c =
    let bare : is_bare (first c.args.s.now) ≡ true = rw (← c.first.ensures) (sym c.is_bare.ensures ∙ c.if-is_bare.true) in
    let after = c.skip_ws-after.result.now in
    let equals : (first after == 61) ≡ true = grind (arith, nat_tests, common_steps) in
    let here : after ≡ skip_ws (split_while is_bare c.args.s.now).1 = c.skip_ws-after.ensures.rest ∙ ap skip_ws c.behind_name.ensures in
    bare-key c.args.s.now after _ bare here equals (c.skip_ws.ensures.rest ∙ ap skip_ws c.skip.ensures.rest)
