-- Questions to cargo that fail.
use Rattle.std.proofs.Common.{◌≡◌, inr, ℕ, List, Option, Result, subst, true, string_bytes}
use Rattle.hack_base.specs.Names.{Name}
use Rattle.hack_process.specs.Calls.{Asked, Call}
use Rattle.hack_process.specs.CommandTexts.{Command, text_of}
use Rattle.hack_process.specs.Commands.{asked_of}
use Rattle.hack_process.specs.Faults.{IsReadFault}
use Rattle.hack_process.specs.declared.fault.ProcessFault.{ProcessFault}
use Rattle.hack_process.specs.declared.fault.ProcessFault.TheVariants as process
use Rattle.hack_words.specs.declared.cli.args.Args.{Args}
use Rattle.hack_words.specs.declared.cli.env.Env.{Env}
use Rattle.hack_load.specs.CargoQuestions.{FailsLocate, FailsSelf, IsSelf, self_command}
use Rattle.hack_load.specs.declared.fault.ContextFault.{ContextFault}
use Rattle.hack_load.specs.declared.fault.ContextFault.TheVariants as faults

-- the error of a read, where the caller says which calls were made
pub fault-told : (tells : Type 0) (asked : Asked) (shown : Name) (old new : List Call) (e : ProcessFault) → tells → IsReadFault tells asked shown old new e → IsReadFault (Unit {0}) asked shown old new e
fault-told tells asked shown old new process.Memory t h = (h.0, λ _. h.1 t)
fault-told tells asked shown old new process.EmptyProgram t h = (h.0, λ _. h.1 t)
fault-told tells asked shown old new (process.NeverExecuted text) t h = (h.0, h.1, λ _. h.2 t)
fault-told tells asked shown old new (process.Failed failure) t h = (h.0, h.1, h.2, λ _. h.3 t)
fault-told tells asked shown old new (process.NotText text) t h = (h.0, h.1, λ _. h.2 t)

pub locate-told : (tells : Type 0) (c : Command) (dir : Name) (old new : List Call) (e : ContextFault) → tells → FailsLocate tells c dir old new e → FailsLocate (Unit {0}) c dir old new e
locate-told tells c dir old new faults.Memory t h = λ _. h t
locate-told tells c dir old new (faults.Process e) t h = (fault-told tells (asked_of true c) (text_of true dir c) old new e t h.0, h.1)
locate-told tells c dir old new (faults.Asked e) t h = absurd h
locate-told tells c dir old new (faults.Files e) t h = absurd h
locate-told tells c dir old new (faults.Manifest e) t h = absurd h
locate-told tells c dir old new faults.OldCargo t h = absurd h
locate-told tells c dir old new (faults.Metadata e) t h = absurd h
locate-told tells c dir old new (faults.NotJson text) t h = absurd h
locate-told tells c dir old new faults.Root t h = absurd h

-- asking cargo for its version failed
pub self-failed : (tells : Type 0) (args : Args) (env : Env) (c : Command) (dir : Name) (old new : List Call) (e : ProcessFault) (version : Result ℕ Name) (host : Option Name)
    → c ≡ self_command (string_bytes env.cargo) → dir ≡ string_bytes env.current_dir → IsReadFault tells (asked_of true c) (text_of true dir c) old new e → tells → FailsSelf e version host → IsSelf args env version host old new
self-failed tells args env c dir old new e version host is at h t failed =
    let told : IsReadFault (Unit {0}) (asked_of true c) (text_of true dir c) old new e = fault-told tells (asked_of true c) (text_of true dir c) old new e t h in
    inr (e, subst (λ k. IsReadFault (Unit {0}) (asked_of true k) (text_of true (string_bytes env.current_dir) k) old new e) is (subst (λ d. IsReadFault (Unit {0}) (asked_of true c) (text_of true d c) old new e) at told), failed)
