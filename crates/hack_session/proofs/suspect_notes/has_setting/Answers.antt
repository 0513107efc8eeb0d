use Rattle.std.proofs.Common.{◌∙◌, rules, tests}
use Rattle.std.proofs.lemmas.Iterator.{YieldsList-from_slice}
use Rattle.std.proofs.lemmas.Iterator.Search.{any_from_yields_List}
use Rattle.hack_session.specs.SuspectNotes.{has_setting}
use Rattle.hack_session.proofs.SuspectNoteLemmas.{any-setting}
use Rattle.hack_session.proofs.suspect_notes.has_setting.Goals as goal

pub returns : goal.returns
returns c =
    any_from_yields_List (λ v. has_setting v.items) _ _ _ c.any.ensures.ran (YieldsList-from_slice c.args.found.now cc) (λ x b q k. search (rules, tests))
    ∙ any-setting c.args.found.now
