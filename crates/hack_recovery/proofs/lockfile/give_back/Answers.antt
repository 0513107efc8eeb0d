use Rattle.std.proofs.Common.{Some, inr, refl, string_bytes, true}
use Rattle.hack_files.specs.View.{files_view}
use Rattle.hack_journal.proofs.RecoverLemmas.{put_made, put_or_not}
use Rattle.hack_recovery.proofs.SettledLemmas.{looked_one, of_lockfile, refused_one}
use Rattle.hack_recovery.proofs.lockfile.give_back.Goals as goal

pub returns-in-Err-clause-said : goal.returns-in-Err-clause-said
returns-in-Err-clause-said g c =
    let lockfile = string_bytes c.args.places.now.lockfile in
    let coloring = c.args.host.now.term.now.coloring in
    let dir = string_bytes c.args.host.now.env.now.current_dir in
    of_lockfile g.L.Files true coloring dir lockfile _ (files_view g.L.Files c.args.lockfiles.now) (files_view g.L.Files c.holds.new.files) c.tell_fault.result _ _
    (looked_one g.L.Files lockfile c.args.lockfiles.now c.holds.new.files c.in-Err.ensures.counted (rw c.as_str-path.ensures.value at c.in-Err.ensures.unseen))
    (rw c.as_str-path.ensures.value at c.tell_fault.ensures.said)

pub returns-in-Err-write-clause-said : goal.returns-in-Err-write-clause-said
returns-in-Err-write-clause-said g c =
    let lockfile = string_bytes c.args.places.now.lockfile in
    let coloring = c.args.host.now.term.now.coloring in
    let dir = string_bytes c.args.host.now.env.now.current_dir in
    of_lockfile g.L.Files true coloring dir lockfile _ (files_view g.L.Files c.args.lockfiles.now) (files_view g.L.Files c.write.new.self) c.tell_fault-in-Err-write.result _ _
    (refused_one g.L.Files lockfile (g.L.Files.failed c.args.lockfiles.now) c.holds.new.files c.write.new.self c.in-Ok.ensures.counted c.in-Err-write.ensures.counted (rw c.as_str-path.ensures.value at c.in-Err-write.ensures.refused_path))
    (rw c.as_str-path.ensures.value at c.tell_fault-in-Err-write.ensures.said)

pub returns-in-Ok-write-clause-wrote : goal.returns-in-Ok-write-clause-wrote
returns-in-Ok-write-clause-wrote g c = λ whole.
    inr (put_made (string_bytes c.args.places.now.lockfile) _ (Some c.args.bytes.now) _ _ _ _ _ _ _ c.as_str-path.ensures.value refl (c.in-Ok.ensures.untraced whole) (c.in-Ok-write.ensures.traced whole))

pub returns-in-Ok-2-clause-wrote : goal.returns-in-Ok-2-clause-wrote
returns-in-Ok-2-clause-wrote g c = λ whole.
    inr (put_made (string_bytes c.args.places.now.lockfile) _ (Some c.args.bytes.now) _ _ _ _ _ _ _ c.as_str-path.ensures.value refl (c.in-Ok.ensures.untraced whole) (c.in-Ok-2.ensures.traced whole))

pub returns-in-Err-write-clause-wrote : goal.returns-in-Err-write-clause-wrote
returns-in-Err-write-clause-wrote g c = λ whole.
    put_or_not (string_bytes c.args.places.now.lockfile) _ (Some c.args.bytes.now) _ _ _ _ _ _ _ c.as_str-path.ensures.value refl (c.in-Ok.ensures.untraced whole) (c.in-Err-write.ensures.refused whole)
