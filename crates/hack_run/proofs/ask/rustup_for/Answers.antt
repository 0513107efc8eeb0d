use Rattle.std.specs.Str.{IsUtf8}
use Rattle.std.proofs.Common.{◌≡◌, subst, sym, true, string_bytes}
use Rattle.hack_base.specs.Names.{names_of}
use Rattle.hack_words.specs.Start.{wants_rustup}
use Rattle.hack_process.specs.Calls.{IsSuccess, MayAdd}
use Rattle.hack_process.specs.CommandTexts.{text_of}
use Rattle.hack_process.specs.Commands.{asked_of, command_of}
use Rattle.hack_process.specs.Faults.{without_line_ends}
use Rattle.hack_run.proofs.CallLemmas.{asks_in_vain, asks_rustup, read_may}
use Rattle.hack_run.proofs.ReasonLemmas.{rustup_failed, rustup_unread}
use Rattle.hack_run.proofs.ask.rustup_for.Goals as goal

-- src/ask.rt:25:1
pub returns-clause-may : goal.returns-clause-may
returns-clause-may g c = λ t.
    subst (λ k. MayAdd (asked_of true k) (g.C.Caller.calls c.args.caller.now) (g.C.Caller.calls c.read.new.caller)) c.in_ok-asked.ensures
    (read_may g.C.Caller.tells (λ text answer. IsSuccess answer.end × IsUtf8 answer.stdout × (string_bytes text ≡ without_line_ends answer.stdout)) (asked_of true (command_of c.in_ok-asked.asked)) (text_of true c.as_str.result.now (command_of c.in_ok-asked.asked)) (g.C.Caller.calls c.args.caller.now) (g.C.Caller.calls c.read.new.caller) c.read.result c.read.ensures.ok c.read.ensures.err t)

pub returns-clause-asked : goal.returns-clause-asked
returns-clause-asked g c =
    asks_in_vain g.C.Caller.tells (wants_rustup (names_of c.args.words.now)) (string_bytes c.args.env.now.rustup) (text_of true c.as_str.result.now (command_of c.in_ok-asked.asked)) (command_of c.in_ok-asked.asked) (g.C.Caller.calls c.args.caller.now) (g.C.Caller.calls c.read.new.caller) c.unknown_rustup.result c.in-Err.fault
    (sym c.if-not-wants_rustup.ensures) c.in_ok-asked.ensures c.in-Err.ensures.err c.unknown_rustup.ensures.unknown c.unknown_rustup.ensures.failed

pub returns-in-Ok-clause-asked : goal.returns-in-Ok-clause-asked
returns-in-Ok-clause-asked g c =
    asks_rustup g.C.Caller.tells (wants_rustup (names_of c.args.words.now)) (string_bytes c.args.env.now.rustup) c.as_str-in-Ok.result.now (command_of c.in_ok-asked.asked) (g.C.Caller.calls c.args.caller.now) (g.C.Caller.calls c.read.new.caller) c.rustup_in.result
    (sym c.if-not-wants_rustup.ensures) c.in_ok-asked.ensures (rw c.as_str-in-Ok.ensures.value c.in-Ok.ensures.ok) c.rustup_in.ensures.minor

pub returns-clause-reason : goal.returns-clause-reason
returns-clause-reason g c =
    rustup_failed g.C.Caller.tells (string_bytes c.args.env.now.rustup) c.as_str.result.now c.args.verbose (command_of c.in_ok-asked.asked) (g.C.Caller.calls c.args.caller.now) (g.C.Caller.calls c.read.new.caller) c.unknown_rustup.result c.in-Err.fault
    c.in_ok-asked.ensures c.in-Err.ensures.err c.unknown_rustup.ensures.failed c.unknown_rustup.ensures.why

pub returns-in-Ok-clause-reason : goal.returns-in-Ok-clause-reason
returns-in-Ok-clause-reason g c =
    rustup_unread g.C.Caller.tells (string_bytes c.args.env.now.rustup) (string_bytes c.args.env.now.current_dir) c.as_str-in-Ok.result.now c.args.verbose (command_of c.in_ok-asked.asked) (g.C.Caller.calls c.args.caller.now) (g.C.Caller.calls c.read.new.caller) c.rustup_in.result
    c.in_ok-asked.ensures (rw c.as_str-in-Ok.ensures.value c.in-Ok.ensures.ok) c.rustup_in.ensures.why
