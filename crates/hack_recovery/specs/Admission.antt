-- Who may go on, and how.
use Rattle.std.specs.Prelude.{◌≡◌, ◌||◌, Bool, true, false, Result, Ok, Err, if◌then◌else◌}
use Rattle.hack_base.specs.Names.{Name}
use Rattle.hack_recovery.specs.declared.admit.Standing.TheVariants.{Nobodys, Anothers, Interrupted}
use Rattle.hack_recovery.specs.declared.admit.Way.{Way}
use Rattle.hack_recovery.specs.declared.admit.Way.TheVariants.{Plain, Guarded}
use Rattle.hack_words.specs.declared.cli.edits.Edits.{Edits}
use Rattle.hack_recovery.specs.declared.fault.CallFault.{CallFault}
use Rattle.hack_recovery.specs.declared.fault.CallFault.TheVariants.{Memory, Busy, Unlocked}
use Rattle.hack_recovery.specs.declared.locks.Holder.{Holder}
use Rattle.hack_recovery.specs.declared.locks.Holder.TheVariants.{Ours, Theirs, Unknown}
use Rattle.hack_words.specs.Edits.{is_change, is_edit}
use Rattle.hack_recovery.specs.LockEvents.{LocksView, after_asking}

-- there is something to guard: the call edits manifests, or an interrupted one left something
abbrev pub needs_lock : Edits → Bool → Bool
needs_lock does there = is_edit does || there

-- How a call may go on, by what it does, whether an interrupted one left something, and who has the
-- lock. Under another call's lock it may not edit, and otherwise goes on beside its edits. Without a lock it may
-- neither edit nor restore where something is left, and a journal of its own would be useless.
abbrev pub way_of : Edits → Bool → Holder → Result Way CallFault
way_of does there Ours = Ok Guarded
way_of does there Theirs = if is_edit does then Err Busy else Ok (Plain Anothers)
way_of does true Unknown = if is_change does then Err Unlocked else Ok (Plain Interrupted)
way_of does false Unknown = Ok (Plain Nobodys)

-- the answer to a call on how it may go on: plainly, where there is nothing to guard; else what
-- follows from who has the lock of the folder; or memory was refused
pub data IsAdmitted (records : Type 0) (does : Edits) (folder : Name) (there : Bool) (old new : LocksView) (came : Result Way CallFault) : Type 0 where
  alone : needs_lock does there ≡ false → new ≡ old → came ≡ Ok (Plain Nobodys) → IsAdmitted records does folder there old new came
  asked : (holder : Holder) → needs_lock does there ≡ true → (records → new ≡ after_asking folder holder old) → came ≡ way_of does there holder
      → IsAdmitted records does folder there old new came
  unanswered : needs_lock does there ≡ true → (records → new ≡ old) → came ≡ Err Memory → IsAdmitted records does folder there old new came
