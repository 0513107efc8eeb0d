-- What is told of a fault, and what it says of looks at files.
use Rattle.std.proofs.Common.{◌≡◌, ◌∙◌, ℕ, Bool, false, sym}
use Rattle.std.specs.Prelude.{Err, Ok, Result}
use Rattle.hack_base.specs.Counters.{GrowsBy}
use Rattle.hack_files.specs.Files.{Contents}
use Rattle.hack_journal.proofs.RecoverLemmas.{never_cut_no_journal}
use Rattle.hack_journal.specs.Recovery.{CountsRecoverFault, IsWhyUnread}
use Rattle.hack_journal.specs.Rows.{Spot}
use Rattle.hack_journal.specs.CutFiles.{IsSafeOrCut}
use Rattle.hack_journal.specs.declared.recover.RecoverFault.{RecoverFault}
use Rattle.hack_journal.specs.declared.recover.RecoverFault.TheVariants.{Memory, NotJournal, Changed, Files}
use Rattle.hack_recovery.specs.Restoring.{IsToldAs}
use Rattle.hack_recovery.specs.declared.fault.CallFault.{CallFault}
use Rattle.hack_recovery.specs.declared.fault.CallFault.TheVariants as call

-- where a journal that an interrupted call left can't be read, and not for want of memory, a look failed
pub look_failed : (s : Spot) (tells : Type 0) (first held : Contents) (before now : ℕ) (fault : RecoverFault) (came : Result Bool CallFault) → tells → IsWhyUnread s tells held fault → CountsRecoverFault before now fault → IsToldAs fault came → IsSafeOrCut s first held → came ≡ Ok false → GrowsBy 1 before now
look_failed s tells first held before now Memory came t why counts told safe off = let e : Ok false ≡ Err call.Memory = sym off ∙ told in cc
look_failed s tells first held before now (NotJournal j) came t why counts told safe off = absurd (never_cut_no_journal s tells first held (NotJournal j) t why safe tt)
look_failed s tells first held before now (Changed p j) came t why counts told safe off = absurd why
look_failed s tells first held before now (Files f) came t why counts told safe off = counts
