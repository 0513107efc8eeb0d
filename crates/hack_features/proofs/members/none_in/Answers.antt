use Rattle.std.proofs.Common.{◌∙◌, sym}
use Rattle.hack_routes.specs.Rows.{bit}
use Rattle.hack_features.proofs.MemberLemmas.{none-next, none-stop}
use Rattle.hack_features.proofs.members.none_in.Goals as goal

pub returns-then-is_both : goal.returns-then-is_both
returns-then-is_both c = sym (none-stop (bit c.args.row.now) c.args.set.now c.loop-place.place (sym c.is_both.ensures ∙ c.if-is_both.true))

pub loop-place-preserved : goal.loop-place-preserved
loop-place-preserved c = none-next (bit c.args.row.now) c.args.set.now c.loop-place.place c.loop-place-test.true (sym c.is_both.ensures ∙ c.if-is_both.false) c.loop-place.invariant
