use Rattle.std.proofs.Common.{◌∙◌, sym}
use Rattle.hack_samples.specs.Sets.{rows_of}
use Rattle.hack_routes.specs.Rows.{cell}
use Rattle.hack_features.proofs.MemberLemmas.{none-next, none-stop}
use Rattle.hack_features.proofs.members.none_at.Goals as goal

pub returns-then-is_with : goal.returns-then-is_with
returns-then-is_with c = sym (none-stop (λ p. cell (rows_of c.args.rows.now) p c.args.last) c.args.set.now c.loop-place.place (sym c.is_with.ensures ∙ c.if-is_with.true))

pub loop-place-preserved : goal.loop-place-preserved
loop-place-preserved c = none-next (λ p. cell (rows_of c.args.rows.now) p c.args.last) c.args.set.now c.loop-place.place c.loop-place-test.true (sym c.is_with.ensures ∙ c.if-is_with.false) c.loop-place.invariant
