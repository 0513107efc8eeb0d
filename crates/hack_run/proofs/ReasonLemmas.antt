-- Why a version is unknown.
use Rattle.std.proofs.Common.{◌≡◌, ◌≢◌, inl, inr, refl, [], codes, true, Bool, IfErr, IfOk, List, None, OnOk, Option, Ok, Err, Result, Some, subst, sym}
use Rattle.std.specs.Prelude.{IfSome}
use Rattle.hack_base.specs.Names.{Name}
use Rattle.hack_load.proofs.AskLemmas.{fault-told}
use Rattle.hack_metadata.specs.QuestionCalls.{ReadsOutput}
use Rattle.hack_metadata.specs.Requests.{version_command}
use Rattle.hack_process.specs.Calls.{Asked, Call}
use Rattle.hack_process.specs.CargoTexts.{release_part}
use Rattle.hack_process.specs.Commands.{asked_of}
use Rattle.hack_process.specs.CommandTexts.{Command, text_of}
use Rattle.hack_process.specs.Faults.{IsFault, IsReadFault, fault_text}
use Rattle.hack_process.specs.declared.fault.ProcessFault.{ProcessFault}
use Rattle.hack_process.specs.declared.fault.ProcessFault.TheVariants as process
use Rattle.hack_planner.specs.declared.stable.Stable.{Stable}
use Rattle.hack_planner.specs.declared.stable.Stable.TheVariants.{Unasked, Known, Unknown}
use Rattle.hack_session.specs.StepEffects.{DoesTask, Scene, Task, TriesFirst, task_of}
use Rattle.hack_session.specs.Toolchains.{addition_of, trial_of}
use Rattle.hack_versions.specs.ToolTexts.{rustup_part}
use Rattle.hack_versions.specs.declared.rustup.Rustup.{Rustup}
use Rattle.hack_words.specs.RustupView.{unknown_of}
use Rattle.hack_run.specs.Internal.{IsLatest}
use Rattle.hack_run.specs.Questions.{InstallsStable, IsAnswerReason, IsInstallReason, IsReason, TellsReason, TellsStableReason, rustup_command}

-- a command gave no answer
call_failed : (part : Name → Option Name) (tells : Type 0) (dir why : Name) (verbose : Bool) (c own : Command) (old new : List Call) (e : ProcessFault) → c ≡ own → text_of true dir own ≡ text_of true [] own
    → IsReadFault tells (asked_of true c) (text_of true dir c) old new e → e ≢ process.Memory → why ≡ fault_text e → tells → IsReason part verbose own old new why
call_failed part tells dir why verbose c own old new e is shown failed lacks told t =
    inl (
      e,
      lacks,
      subst (λ (text : Name). IsReadFault (Unit {0}) (asked_of true own) text old new e) shown
          (subst (λ (k : Command). IsReadFault (Unit {0}) (asked_of true k) (text_of true dir k) old new e) is (fault-told tells (asked_of true c) (text_of true dir c) old new e t failed)),
      told,
    )

-- its answer has no version
call_unread : (part : Name → Option Name) (tells : Type 0) (dir answer why : Name) (verbose : Bool) (c own : Command) (old new : List Call) → c ≡ own → text_of verbose dir own ≡ text_of verbose [] own
    → (tells → ReadsOutput c answer old new) → IsAnswerReason answer (part answer) (text_of verbose dir c) why → tells → IsReason part verbose own old new why
call_unread part tells dir answer why verbose c own old new is shown had told t =
    inr (
      answer,
      subst (λ (k : Command). ReadsOutput k answer old new) is (had t),
      subst (λ (text : Name). IsAnswerReason answer (part answer) text why) shown
          (subst (λ (k : Command). IsAnswerReason answer (part answer) (text_of verbose dir k) why) is told),
    )

-- rustup gave no answer
pub rustup_failed : {E : Type 0} (tells : Type 0) (rustup dir : Name) (verbose : Bool) (c : Command) (old new : List Call) (r : Result Rustup E) (e : ProcessFault) → c ≡ rustup_command rustup → IsReadFault tells (asked_of true c) (text_of true dir c) old new e
    → OnOk r (e ≢ process.Memory) → IfOk r (λ known. unknown_of known ≡ Some (fault_text e)) → IfOk r (λ known. tells → TellsReason verbose rustup known old new)
rustup_failed tells rustup dir verbose c old new (Ok known) e is failed lacks why = λ t.
    subst (λ (o : Option Name). IfSome o (IsReason rustup_part verbose (rustup_command rustup) old new)) (sym why)
    (call_failed rustup_part tells dir (fault_text e) verbose c (rustup_command rustup) old new e is refl failed lacks refl t)
rustup_failed tells rustup dir verbose c old new (Err x) e is failed lacks why = tt

-- ... or one that has no version
pub rustup_unread : {E : Type 0} (tells : Type 0) (rustup dir answer : Name) (verbose : Bool) (c : Command) (old new : List Call) (r : Result Rustup E) → c ≡ rustup_command rustup → (tells → ReadsOutput c answer old new)
    → IfOk r (λ known. IfSome (unknown_of known) (IsAnswerReason answer (rustup_part answer) (text_of verbose dir c))) → IfOk r (λ known. tells → TellsReason verbose rustup known old new)
rustup_unread tells rustup dir answer verbose c old new (Ok known) is had why = go (unknown_of known) why
  where
    go : (o : Option Name) → IfSome o (IsAnswerReason answer (rustup_part answer) (text_of verbose dir c)) → tells → IfSome o (IsReason rustup_part verbose (rustup_command rustup) old new)
    go None h t = tt
    go (Some why) h t = call_unread rustup_part tells dir answer why verbose c (rustup_command rustup) old new is refl had h t
rustup_unread tells rustup dir answer verbose c old new (Err x) is had why = tt

-- stable's cargo gave no answer
pub stable_failed : (tells : Type 0) (rustup dir : Name) (verbose : Bool) (c : Command) (old new : List Call) (e : ProcessFault) → c ≡ version_command rustup → IsReadFault tells (asked_of true c) (text_of true dir c) old new e
    → (why : Name) → (e ≢ process.Memory) × (why ≡ fault_text e) → tells → IsReason release_part verbose (version_command rustup) old new why
stable_failed tells rustup dir verbose c old new e is failed why lacks t = call_failed release_part tells dir why verbose c (version_command rustup) old new e is refl failed lacks.0 lacks.1 t

-- ... or one that has no version
pub stable_unread : (tells : Type 0) (P : Type 0) (rustup dir answer : Name) (verbose : Bool) (c : Command) (old new : List Call) → c ≡ version_command rustup → (tells → ReadsOutput c answer old new)
    → (why : Name) → P × IsAnswerReason answer (release_part answer) (text_of verbose dir c) why → tells → IsReason release_part verbose (version_command rustup) old new why
stable_unread tells P rustup dir answer verbose c old new is had why told t = call_unread release_part tells dir answer why verbose c (version_command rustup) old new is refl had told.1 t

fault_told : (tells : Type 0) (asked : Asked) (shown : Name) (old new : List Call) (e : ProcessFault) → tells → IsFault tells asked shown old new e → IsFault (Unit {0}) asked shown old new e
fault_told tells asked shown old new process.Memory t h = (h.0, λ u. h.1 t)
fault_told tells asked shown old new process.EmptyProgram t h = (h.0, λ u. h.1 t)
fault_told tells asked shown old new (process.NeverExecuted text) t h = (h.0, h.1, λ u. h.2 t)
fault_told tells asked shown old new (process.Failed failure) t h = (h.0, h.1, h.2, λ u. h.3 t)
fault_told tells asked shown old new (process.NotText text) t h = absurd h

-- a command that failed, but not for memory, was called
task_failed : (tells : Type 0) (task : Task) (e : ProcessFault) (old new : Scene) → e ≢ process.Memory → tells → DoesTask tells task (Err e) old new → IsFault (Unit {0}) task.asked task.shown old.calls new.calls e
task_failed tells task e old new lacks t (inl starved) = let is : e ≡ process.Memory = cc in absurd (lacks is)
task_failed tells task e old new lacks t (inr did) = fault_told tells task.asked task.shown old.calls new.calls e t did.1.0

-- the toolchain couldn't be installed
pub install_failed : (tells : Type 0) (rustup dir : Name) (r : Result (Unit {0}) ProcessFault) (old new : Scene)
    → TriesFirst tells [] (task_of [] true dir (trial_of rustup (codes "stable"))) (task_of [] true dir (addition_of rustup (codes "stable") [])) r old new
    → IfErr r (λ e. e ≢ process.Memory → tells → IsInstallReason rustup old.calls new.calls (fault_text e))
install_failed tells rustup dir (Ok done) old new h = tt
install_failed tells rustup dir (Err e) old new (inl tried) = λ lacks t. absurd (lacks tried.0)
install_failed tells rustup dir (Err e) old new (inr both) = λ lacks t. (
  both.1.calls,
  both.0,
  e,
  (both.2, task_failed tells (task_of [] true dir (trial_of rustup (codes "stable"))) both.0 old both.1 both.2 t both.3),
  (lacks, task_failed tells (task_of [] true dir (addition_of rustup (codes "stable") [])) e both.1 new lacks t both.4),
  refl,
)

-- stable couldn't be installed, or its version wasn't read
pub install_reason : {E : Type 0} (tells : Type 0) (verbose : Bool) (rustup : Name) (old new : List Call) (r : Result Stable E) (e : ProcessFault) → (e ≢ process.Memory → tells → IsInstallReason rustup old new (fault_text e))
    → IfOk r (IsLatest (λ v. ⊥) (λ why. (e ≢ process.Memory) × (why ≡ fault_text e))) → IfOk r (λ stable. tells → TellsStableReason verbose rustup stable old new)
install_reason tells verbose rustup old new (Ok Unasked) e why h = λ t. tt
install_reason tells verbose rustup old new (Ok (Known v)) e why h = λ t. tt
install_reason tells verbose rustup old new (Ok (Unknown text)) e why h = λ t. inl (subst (λ (told : Name). IsInstallReason rustup old new told) (sym h.1) (why h.0 t))
install_reason tells verbose rustup old new (Err x) e why h = tt

pub version_reason : {E : Type 0} (tells : Type 0) (verbose : Bool) (rustup : Name) (old mid new : List Call) (r : Result Stable E) → (tells → InstallsStable rustup old mid)
    → IfOk r (IsLatest (λ v. Unit {0}) (λ why. tells → IsReason release_part verbose (version_command rustup) mid new why)) → IfOk r (λ stable. tells → TellsStableReason verbose rustup stable old new)
version_reason tells verbose rustup old mid new (Ok Unasked) installed h = λ t. tt
version_reason tells verbose rustup old mid new (Ok (Known v)) installed h = λ t. tt
version_reason tells verbose rustup old mid new (Ok (Unknown text)) installed h = λ t. inr (mid, installed t, h t)
version_reason tells verbose rustup old mid new (Err x) installed h = tt
