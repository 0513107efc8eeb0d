use Rattle.std.proofs.Common.{inl, inr, refl, string_bytes}
use Rattle.hack_journal.specs.RefusingLaws.{grows_none}
use Rattle.hack_places.specs.PlacesView.{places_view}
use Rattle.hack_recovery.proofs.CopyLemmas.{ends_failed}
use Rattle.hack_recovery.proofs.lockfile.copy_lockfile.Goals as goal

pub returns-in-Ok-Some-clause-ends : goal.returns-in-Ok-Some-clause-ends
returns-in-Ok-Some-clause-ends g c =
    ends_failed g.F.Files g.L.Files (places_view c.args.places.now) _ _ _ _ c.args.term.now.coloring (string_bytes c.args.places.now.copy) c.tell_fault.result _ _
    (inr (c.in-Err-write.ensures.counted, c.in-Ok-Some.ensures.failures, inl (refl, record { before = c.args.files.now; after = c.write.new.self; refused = rw c.as_str-copy.ensures.value at c.in-Err-write.ensures.refused_path })))
    (rw c.as_str-copy.ensures.value at c.tell_fault.ensures.said)

pub returns-clause-ends : goal.returns-clause-ends
returns-clause-ends g c =
    ends_failed g.F.Files g.L.Files (places_view c.args.places.now) _ _ _ _ c.args.term.now.coloring (string_bytes c.args.places.now.lockfile) c.tell_fault-in-Err.result _ _
    (inl (refl, grows_none _, c.in-Err.ensures.failures, record { before = c.args.lockfiles.now; after = c.look.new.files; unseen = (rw c.as_str-lockfile.ensures.value at c.in-Err.ensures.unseen).unseen }))
    (rw c.as_str-lockfile.ensures.value at c.tell_fault-in-Err.ensures.said)
