use Rattle.std.proofs.Common.{inl, inr, subst}
use Rattle.hack_load.specs.ContextOf.{IsContextOf}
use Rattle.hack_load.specs.ContextView.{context_view}
use Rattle.hack_load.proofs.context.Context.new.Goals as goal

pub returns-in-Ok-of-clause-ok : goal.returns-in-Ok-of-clause-ok
returns-in-Ok-of-clause-ok c = (c.in-Ok.loaded, c.in-Ok.is, subst (λ n. IsContextOf c.args.args n c.in-Ok.loaded (context_view c.in-Ok-of.context)) c.minor_of-minor.ensures c.in-Ok-of.ensures.ok)

pub returns-in-Err-of-clause-err : goal.returns-in-Err-of-clause-err
returns-in-Err-of-clause-err c = elim c.in-Err-of.ensures.err [ inl e ↦ inl e | inr h ↦ inr (inr (c.in-Ok.loaded, c.in-Ok.is, h)) ]
