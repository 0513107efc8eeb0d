use Rattle.std.proofs.Common.{[], ◌∷◌, inl, inr, refl}
use Rattle.hack_journal.specs.Journal.{edit_of}
use Rattle.hack_journal.specs.Recovery.{HasEntry}
use Rattle.hack_files.proofs.FailedLemmas.{none_then}
use Rattle.hack_journal.proofs.FailedLemmas.{fault_then, memory_only, write_failed}
use Rattle.hack_journal.proofs.RecoverLemmas.{on_ok_always, put_keeps, put_made, put_or_not}
use Rattle.hack_journal.proofs.recover.put_back.Goals as goal

pub returns-in-Ok-put-clause-back : goal.returns-in-Ok-put-clause-back
returns-in-Ok-put-clause-back g c = λ tells.
    put_keeps (edit_of c.args.entry.now).path _ (edit_of c.args.entry.now).held _ (g.F.Files.bytes_at c.args.files.now) _ (g.F.Files.bytes_at c.put.new.files) c.deref-2.ensures c.as_deref-3.ensures.value (c.in-Ok.ensures.same tells) (c.in-Ok-put.ensures.put tells) (c.in-Ok-put.ensures.changes.others tells)

pub returns-in-Ok-2-clause-back : goal.returns-in-Ok-2-clause-back
returns-in-Ok-2-clause-back g c = on_ok_always c.add_path.result (λ tells.
    put_keeps (edit_of c.args.entry.now).path _ (edit_of c.args.entry.now).held _ (g.F.Files.bytes_at c.args.files.now) _ (g.F.Files.bytes_at c.put.new.files) c.deref-2.ensures c.as_deref-3.ensures.value (c.in-Ok.ensures.same tells) (c.in-Ok-2.ensures.put tells) (c.in-Ok-2.ensures.changes.others tells))

pub returns-in-Ok-put-clause-calls : goal.returns-in-Ok-put-clause-calls
returns-in-Ok-put-clause-calls g c = none_then g.F.Files c.args.files.now c.look.new.files c.put.new.files c.in-Ok.ensures.unseen c.in-Ok-put.ensures.calls

pub returns-in-Ok-2-clause-calls : goal.returns-in-Ok-2-clause-calls
returns-in-Ok-2-clause-calls g c =
    memory_only g.F.Files (HasEntry (edit_of c.args.entry.now ∷ [])) c.add_path.result c.args.files.now c.put.new.files c.add_path.ensures.fault
    (none_then g.F.Files c.args.files.now c.look.new.files c.put.new.files c.in-Ok.ensures.unseen c.in-Ok-2.ensures.calls)

pub returns-clause-calls : goal.returns-clause-calls
returns-clause-calls g c =
    fault_then g.F.Files (HasEntry (edit_of c.args.entry.now ∷ [])) c.write_fault.result c.args.files.now c.look.new.files c.put.new.files c.in-Ok.ensures.unseen
    (write_failed g.F.Files (HasEntry (edit_of c.args.entry.now ∷ [])) (edit_of c.args.entry.now).path c.write_fault.result c.look.new.files c.put.new.files (inl refl) (rw c.deref-in-Err-put.ensures at c.write_fault.ensures.write) (rw c.deref-2.ensures at c.in-Err-put.ensures.calls))

pub returns-in-Ok-put-clause-made : goal.returns-in-Ok-put-clause-made
returns-in-Ok-put-clause-made g c = λ whole.
    inr (put_made (edit_of c.args.entry.now).path _ (edit_of c.args.entry.now).held _ _ _ _ _ _ _ c.deref-2.ensures c.as_deref-3.ensures.value (c.in-Ok.ensures.untraced whole) (c.in-Ok-put.ensures.traced whole))

pub returns-in-Ok-2-clause-made : goal.returns-in-Ok-2-clause-made
returns-in-Ok-2-clause-made g c = λ whole.
    inr (put_made (edit_of c.args.entry.now).path _ (edit_of c.args.entry.now).held _ _ _ _ _ _ _ c.deref-2.ensures c.as_deref-3.ensures.value (c.in-Ok.ensures.untraced whole) (c.in-Ok-2.ensures.traced whole))

pub returns-clause-made : goal.returns-clause-made
returns-clause-made g c = λ whole.
    put_or_not (edit_of c.args.entry.now).path _ (edit_of c.args.entry.now).held _ _ _ _ _ _ _ c.deref-2.ensures c.as_deref-3.ensures.value (c.in-Ok.ensures.untraced whole) (c.in-Err-put.ensures.refused whole)
