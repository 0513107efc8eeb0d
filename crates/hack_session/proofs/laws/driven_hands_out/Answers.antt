use Rattle.hack_session.proofs.Headline.{hands_out, whole}
use Rattle.hack_session.proofs.laws.driven_hands_out.Goals as goal

pub returns-clause-runs : goal.returns-clause-runs
returns-clause-runs c = λ piece keep_going t driven. hands_out piece t driven.schedule driven.history driven.complete

pub returns-clause-whole : goal.returns-clause-whole
returns-clause-whole c = λ piece keep_going t driven passed. whole t driven.history driven.complete passed
