use Rattle.std.proofs.Common.{◌≡◌, [], List, sym, ◌∙◌, subst, Option}
use Rattle.std.specs.Iterator.{YieldsFirst}
use Rattle.hack_session.specs.declared.step.Handed.{Handed}
use Rattle.hack_session.specs.Cursors.{steps_left}
use Rattle.hack_session.proofs.CursorLemmas.{none_left}
use Rattle.hack_session.proofs.history.HistoryIterator.next.Goals as goal

pub returns-in_err-outcome-clause-steps : goal.returns-in_err-outcome-clause-steps
returns-in_err-outcome-clause-steps c =
    let self = c.self.inside in
    let empty : c.args.self.now ≡ [] = sym c.self.view_is ∙ none_left (steps_left self.piece self.plan.now self.cursor) self.outcomes.now c.in_err-outcome.ensures.cases in
    subst (λ (o : Option Handed). YieldsFirst (λ (h : List Handed). h) c.args.self.now o c.args.self.now) (sym c.from_residual.ensures) (empty, empty)
