use Rattle.std.proofs.Common.{ap, map, option_map}
use Rattle.hack_base.specs.Notes.{note_of}
use Rattle.hack_samples.specs.Sets.{rows_of}
use Rattle.hack_session.specs.Suspects.{explained_view}
use Rattle.hack_session.proofs.SuspectNoteLemmas.{notes-some}
use Rattle.hack_session.proofs.suspect_notes.add_notes.Goals as goal

pub returns-in_ok-add_found-in-Some : goal.returns-in_ok-add_found-in-Some
returns-in_ok-add_found-in-Some c =
    notes-some c.args.plan.now c.args.piece (explained_view c.args.one.now) (rows_of c.in-Some.found.items) c.count_candidates-candidates.result (map note_of c.args.notices.now.items) (map note_of c.add_found.new.notices.items) (map note_of c.add_missed.new.notices.items)
    c.add_missed.result (ap (option_map (λ found. rows_of found.items)) c.in-Some.is) c.count_candidates-candidates.ensures (rw c.as_slice.ensures.value at c.in_ok-add_found-in-Some.ensures) c.add_missed.ensures
