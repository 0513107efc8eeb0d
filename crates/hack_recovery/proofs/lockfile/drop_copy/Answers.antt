use Rattle.std.proofs.Common.{string_bytes}
use Rattle.hack_recovery.proofs.SettledLemmas.{if_not_done}
use Rattle.hack_recovery.proofs.lockfile.drop_copy.Goals as goal

pub returns-in-Err-clause-said : goal.returns-in-Err-clause-said
returns-in-Err-clause-said g c =
    if_not_done _ c.args.term.now.coloring (string_bytes c.args.places.now.copy) c.tell_fault.result _ _
    (c.in-Err.ensures.counted, record { before = c.args.files.now; after = c.remove.new.self; refused = rw c.as_str-copy.ensures.value at c.in-Err.ensures.refused_path })
    (rw c.as_str-copy.ensures.value at c.tell_fault.ensures.said)
