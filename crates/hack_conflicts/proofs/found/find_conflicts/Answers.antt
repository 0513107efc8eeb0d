use Rattle.hack_conflicts.specs.Runs.{finding_of}
use Rattle.hack_conflicts.proofs.EndLemmas.{sound_none}
use Rattle.hack_conflicts.proofs.FoundLemmas.{is_finding}
use Rattle.hack_conflicts.proofs.found.find_conflicts.Goals as goal

pub search-requires-clause-sound : goal.search-requires-clause-sound
search-requires-clause-sound g c =
    let e = c.nothing-known.ensures in
    sound_none c.args.rules.now c.args.most_runs c.nothing-known.result e.runs e.conflicts e.passing

pub returns-clause-found : goal.returns-clause-found
returns-clause-found g c =
    let searched = c.in_ok-complete.ensures in
    let concluded = c.in_ok-conclude.ensures in
    let passing = concluded.passing in
    is_finding c.args.rules.now c.args.most_runs c.search.new.known (finding_of c.in_ok-conclude.field-0) c.in_ok-complete.complete searched.sound
    (record { others = passing.0; same_runs = concluded.runs; same_conflicts = concluded.conflicts; both = passing.1; rest = passing.2 }) concluded.complete searched.owes searched.going searched.cut_off searched.steady searched.settled
