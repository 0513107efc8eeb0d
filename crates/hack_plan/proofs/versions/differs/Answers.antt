use Rattle.std.proofs.Common.{subst, sym, arith}
use Rattle.std.specs.List.{Contains}
use Rattle.std.proofs.lemmas.List.{take_all}
use Rattle.hack_plan.proofs.versions.differs.Goals as goal

pub returns-then-is_other : goal.returns-then-is_other
returns-then-is_other c = (λ t. (c.member-item.result, (c.loop-member.member-index, omega arith, sym c.member-item.is), c.is_other.ensures.0 c.if-is_other.true), λ w. cc)

pub returns : goal.returns
returns c = (λ t. cc, λ w. absurd (c.loop-member.invariant w.0 (subst (λ xs. Contains xs w.0) (sym (take_all c.loop-member.member-index c.args.packages.now (omega arith))) w.1) w.2))
