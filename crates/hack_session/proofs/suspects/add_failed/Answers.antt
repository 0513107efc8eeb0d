use Rattle.std.proofs.Common.{◌∙◌, sym, ◌≡◌, true}
use Rattle.std.proofs.lemmas.Result.{on_ok_weaker}
use Rattle.hack_session.specs.ListLines.{is_failed}
use Rattle.hack_session.proofs.SuspectLemmas.{parts-added}
use Rattle.hack_session.proofs.suspects.add_failed.Goals as goal

pub returns-in-Some-clause-exactly : goal.returns-in-Some-clause-exactly
returns-in-Some-clause-exactly c =
    let failed : is_failed c.args.handed.outcome ≡ true = sym c.is_failed.ensures ∙ c.if-not-is_failed.false in
    on_ok_weaker c.add_once.result (λ more. parts-added c.args.plan.now c.args.handed c.in-Some.part c.args.parts.now.items c.add_once.new.parts.items failed (sym c.part_at.ensures ∙ c.in-Some.is) more) c.add_once.ensures.exactly
