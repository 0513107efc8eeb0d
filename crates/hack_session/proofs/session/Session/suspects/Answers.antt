use Rattle.std.proofs.Common.{map}
use Rattle.hack_session.specs.Suspects.{explained_view}
use Rattle.hack_session.proofs.SuspectLemmas.{explained-by, if_ok_both}
use Rattle.hack_session.proofs.session.Session.suspects.Goals as goal

pub returns : goal.returns
returns c =
    if_ok_both _ _ _ c.explain_all.result
    (λ all same each. explained-by c.args.self.now c.args.strength c.in_ok-parts.parts.items c.as_slice.result.now (map explained_view all.items)
    c.as_slice.ensures.value c.in_ok-parts.ensures.ordered c.in_ok-parts.ensures.exactly same each)
    c.explain_all.ensures.parts c.explain_all.ensures.explained
