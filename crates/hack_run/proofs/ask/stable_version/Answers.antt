use Rattle.std.specs.Str.{IsUtf8}
use Rattle.std.proofs.Common.{◌≡◌, None, string_bytes, subst, true}
use Rattle.std.specs.Prelude.{◌≢◌}
use Rattle.hack_process.specs.declared.fault.ProcessFault.TheVariants.{Memory}
use Rattle.hack_process.specs.Calls.{IsSuccess, MayAdd}
use Rattle.hack_process.specs.CargoTexts.{release_part}
use Rattle.hack_process.specs.Commands.{asked_of, command_of}
use Rattle.hack_process.specs.CommandTexts.{text_of}
use Rattle.hack_process.specs.Faults.{fault_text, without_line_ends}
use Rattle.hack_metadata.specs.Requests.{version_command}
use Rattle.hack_versions.specs.ToolTexts.{TellsRelease}
use Rattle.hack_run.specs.Loading.{IsMinorIn}
use Rattle.hack_run.specs.Questions.{CannotReadStable, IsAnswerReason, IsReason, ReadsStable}
use Rattle.hack_run.proofs.ReasonLemmas.{stable_failed, stable_unread}
use Rattle.hack_run.proofs.CallLemmas.{answer_map, read_may, reads, reads_in_vain, reads_nothing}
use Rattle.hack_run.proofs.ask.stable_version.Goals as goal

-- src/ask.rt:174:1
pub returns-in-Ok-clause-read : goal.returns-in-Ok-clause-read
returns-in-Ok-clause-read g c =
    let rustup = string_bytes c.args.env.now.rustup in
    let old = g.C.Caller.calls c.args.caller.now in
    let new = g.C.Caller.calls c.read.new.caller in
    answer_map (TellsRelease (release_part c.as_str-in-Ok.result.now)) (λ v. g.C.Caller.tells → ReadsStable rustup v old new)
    (λ why. IsMinorIn (release_part c.as_str-in-Ok.result.now) None × IsAnswerReason c.as_str-in-Ok.result.now (release_part c.as_str-in-Ok.result.now) (text_of c.args.verbose (string_bytes c.args.env.now.current_dir) (command_of c.in_ok-asked.asked)) why)
    (λ why. g.C.Caller.tells → CannotReadStable rustup old new) c.stable_in.result
    (reads g.C.Caller.tells rustup c.as_str-in-Ok.result.now (command_of c.in_ok-asked.asked) old new c.in_ok-asked.ensures (rw c.as_str-in-Ok.ensures.value c.in-Ok.ensures.ok))
    (λ why told. reads_nothing g.C.Caller.tells rustup c.as_str-in-Ok.result.now (command_of c.in_ok-asked.asked) old new c.in_ok-asked.ensures (rw c.as_str-in-Ok.ensures.value c.in-Ok.ensures.ok) told.0)
    c.stable_in.ensures

pub returns-clause-read : goal.returns-clause-read
returns-clause-read g c =
    let rustup = string_bytes c.args.env.now.rustup in
    let old = g.C.Caller.calls c.args.caller.now in
    let new = g.C.Caller.calls c.read.new.caller in
    answer_map (λ v. ⊥) (λ v. g.C.Caller.tells → ReadsStable rustup v old new) (λ why. (c.in-Err.fault ≢ Memory) × (why ≡ fault_text c.in-Err.fault)) (λ why. g.C.Caller.tells → CannotReadStable rustup old new) c.stable_fault.result
    (λ v none. absurd none)
    (λ why lacks. reads_in_vain g.C.Caller.tells rustup (text_of true c.as_str.result.now (command_of c.in_ok-asked.asked)) (command_of c.in_ok-asked.asked) old new c.in-Err.fault c.in_ok-asked.ensures c.in-Err.ensures.err lacks.0)
    c.stable_fault.ensures

pub returns-in-Ok-clause-why : goal.returns-in-Ok-clause-why
returns-in-Ok-clause-why g c =
    let rustup = string_bytes c.args.env.now.rustup in
    let dir = string_bytes c.args.env.now.current_dir in
    let old = g.C.Caller.calls c.args.caller.now in
    let new = g.C.Caller.calls c.read.new.caller in
    let answer = c.as_str-in-Ok.result.now in
    answer_map (TellsRelease (release_part answer)) (λ v. Unit {0})
    (λ why. IsMinorIn (release_part answer) None × IsAnswerReason answer (release_part answer) (text_of c.args.verbose dir (command_of c.in_ok-asked.asked)) why)
    (λ why. g.C.Caller.tells → IsReason release_part c.args.verbose (version_command rustup) old new why) c.stable_in.result (λ v told. tt)
    (stable_unread g.C.Caller.tells (IsMinorIn (release_part answer) None) rustup dir answer c.args.verbose (command_of c.in_ok-asked.asked) old new c.in_ok-asked.ensures (rw c.as_str-in-Ok.ensures.value c.in-Ok.ensures.ok))
    c.stable_in.ensures

pub returns-clause-why : goal.returns-clause-why
returns-clause-why g c =
    let rustup = string_bytes c.args.env.now.rustup in
    let old = g.C.Caller.calls c.args.caller.now in
    let new = g.C.Caller.calls c.read.new.caller in
    answer_map (λ v. ⊥) (λ v. Unit {0}) (λ why. (c.in-Err.fault ≢ Memory) × (why ≡ fault_text c.in-Err.fault)) (λ why. g.C.Caller.tells → IsReason release_part c.args.verbose (version_command rustup) old new why) c.stable_fault.result
    (λ v none. absurd none)
    (stable_failed g.C.Caller.tells rustup c.as_str.result.now c.args.verbose (command_of c.in_ok-asked.asked) old new c.in-Err.fault c.in_ok-asked.ensures c.in-Err.ensures.err)
    c.stable_fault.ensures

pub returns-clause-may : goal.returns-clause-may
returns-clause-may g c = λ t.
    subst (λ k. MayAdd (asked_of true k) (g.C.Caller.calls c.args.caller.now) (g.C.Caller.calls c.read.new.caller)) c.in_ok-asked.ensures
    (read_may g.C.Caller.tells (λ text answer. IsSuccess answer.end × IsUtf8 answer.stdout × (string_bytes text ≡ without_line_ends answer.stdout)) (asked_of true (command_of c.in_ok-asked.asked)) (text_of true c.as_str.result.now (command_of c.in_ok-asked.asked)) (g.C.Caller.calls c.args.caller.now) (g.C.Caller.calls c.read.new.caller) c.read.result c.read.ensures.ok c.read.ensures.err t)
