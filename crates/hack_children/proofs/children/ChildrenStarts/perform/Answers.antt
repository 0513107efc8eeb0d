use Rattle.std.proofs.Common.{inl}
use Rattle.std.proofs.lemmas.Result.{on_err_weaker}
use Rattle.hack_children.proofs.children.ChildrenStarts.perform.Goals as goal

pub returns-clause-refused : goal.returns-clause-refused
returns-clause-refused g c = on_err_weaker c.call.result (λ _. inl tt) c.call.ensures.refused
