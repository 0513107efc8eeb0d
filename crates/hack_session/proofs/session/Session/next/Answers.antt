use Rattle.std.proofs.Common.{ap, ◌∙◌}
use Rattle.hack_session.specs.Histories.{next_of}
use Rattle.hack_session.specs.Cursors.{steps_left}
use Rattle.hack_session.proofs.CursorLemmas.{next_is}
use Rattle.hack_session.proofs.session.Session.next.Goals as goal

pub returns-clause-next : goal.returns-clause-next
returns-clause-next c =
    let self = c.self.inside in
    next_is self.piece self.plan self.cursor self.outcomes.items self.keep_going self.stopped c.next.result (steps_left self.piece self.plan c.next.new.self) c.self.invariant.1 c.if-self.false c.next.ensures.taken
    ∙ ap next_of c.self.view_is
