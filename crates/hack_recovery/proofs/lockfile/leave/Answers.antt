use Rattle.std.proofs.Common.{◌++◌, ap, codes, false, refl, string_bytes}
use Rattle.hack_base.specs.Names.{Name}
use Rattle.hack_files.specs.View.{files_view}
use Rattle.hack_term.specs.Lines.{info_line}
use Rattle.hack_recovery.specs.Telling.SaysIfOther.{other}
use Rattle.hack_recovery.proofs.SaidLemmas.{wrote_as}
use Rattle.hack_recovery.proofs.SettledLemmas.{looked_one, of_lockfile}
use Rattle.hack_recovery.proofs.lockfile.leave.Goals as goal

pub returns-in-Ok-false-clause-said : goal.returns-in-Ok-false-clause-said
returns-in-Ok-false-clause-said g c =
    let path = c.as_str-path.ensures.value in
    other (λ t. (rw (path, c.in-Ok-false.field-0-test) at c.in-Ok-false.ensures.other) refl t)
    (wrote_as g.E.Sink _ _ (info_line c.args.host.now.term.now.coloring) _ _ c.info_of.result
    (ap (λ (p : Name). codes "left `" ++ (p ++ codes "` as it is: in the interrupted call cargo may have changed it")) (rw (path, c.as_str.ensures.value) at c.under-path.ensures)) c.info_of.ensures.line c.info_of.ensures.front c.info_of.ensures.counted)

pub returns-in-Err-clause-said : goal.returns-in-Err-clause-said
returns-in-Err-clause-said g c =
    let lockfile = string_bytes c.args.places.now.lockfile in
    let coloring = c.args.host.now.term.now.coloring in
    let dir = string_bytes c.args.host.now.env.now.current_dir in
    of_lockfile g.L.Files false coloring dir lockfile _ (files_view g.L.Files c.args.lockfiles.now) (files_view g.L.Files c.holds.new.files) c.tell_fault.result _ _
    (looked_one g.L.Files lockfile c.args.lockfiles.now c.holds.new.files c.in-Err.ensures.counted (rw c.as_str-path.ensures.value at c.in-Err.ensures.unseen))
    (rw c.as_str-path.ensures.value at c.tell_fault.ensures.said)
