use Rattle.std.proofs.Common.{◌≡◌, ◌∙◌, sym, arith, false}
use Rattle.std.specs.Prelude.{nat_eq}
use Rattle.std.proofs.lemmas.Bool.{le-ltb}
use Rattle.std.proofs.lemmas.Bool.Decides.{nat_tests}
use Rattle.std.proofs.lemmas.Result.{IfOk-weaker}
use Rattle.hack_session.proofs.SuspectNoteLemmas.{who-all}
use Rattle.hack_session.proofs.suspect_notes.who_text.Goals as goal

pub returns : goal.returns
returns c =
    let more : nat_eq c.args.failed 1 ≡ false = grind (arith, nat_tests) in
    IfOk-weaker c.format-2.result _ _ (λ text e. e ∙ sym (who-all c.args.showing c.args.failed (le-ltb c.args.showing c.args.failed c.if-showing-failed.false) more)) c.format-2.ensures.ok
