-- The errors that end a call, as they are told.
use Rattle.std.specs.Prelude.{◌≡◌, ◌⊎◌, ◌&&◌, Bool, Err, IfSome, List, None, Ok, Option, Result, Some, codes, false, map, option_map, string_bytes, true, ℕ, if◌then◌else◌, nat_eq, option_and_then}
use Rattle.std.specs.List.{starts_with}
use Rattle.std.specs.Option.{option_or, option_to_list, unwrap_or}
use Rattle.std.specs.Str.{bytes_eq}
use Rattle.hack_base.specs.Names.{Name}
use Rattle.hack_base.specs.Streams.{Stream, WritesAll, WritesText}
use Rattle.hack_load.specs.declared.fault.ContextFault.TheVariants as context
use Rattle.hack_metadata.specs.declared.ask.fault.AskFault.TheVariants as asked
use Rattle.hack_planner.specs.declared.fault.PlanFault.TheVariants as plan
use Rattle.hack_prepare.specs.declared.fault.PrepareFault.TheVariants as prepare
use Rattle.hack_process.specs.Faults.{fault_text}
use Rattle.hack_process.specs.declared.fault.ProcessFault.{ProcessFault}
use Rattle.hack_process.specs.declared.fault.ProcessFault.TheVariants.{NeverExecuted}
use Rattle.hack_rules.specs.declared.fault.CliFault.TheVariants as words
use Rattle.hack_term.specs.Lines.{error_line, info_line}
use Rattle.hack_term.specs.declared.term.Coloring.{Coloring}
use Rattle.hack_words.specs.declared.cli.env.Env.{Env}
use Rattle.hack_files.specs.Faults.{file_text, of_device}
use Rattle.hack_files.specs.declared.fs.FsFault.{FsFault}
use Rattle.hack_run.specs.declared.fault.RunFault.{RunFault}
use Rattle.hack_run.specs.declared.fault.RunFault.TheVariants as fault

-- ---- texts

-- the command that failed, where that is the error
abbrev pub failed_command : RunFault → Option ProcessFault
failed_command (fault.Process failed) = Some failed
failed_command (fault.Context (context.Process failed)) = Some failed
failed_command (fault.Context (context.Asked (asked.Process failed))) = Some failed
failed_command other = None

-- the error of a file, where that is the error
abbrev pub failed_file : RunFault → Option FsFault
failed_file (fault.Context (context.Files f)) = Some f
failed_file (fault.Context (context.Asked (asked.Files f))) = Some f
failed_file (fault.Manifests (prepare.Files f)) = Some f
failed_file other = None

-- the error is that of a file which couldn't be read or written
abbrev pub is_of_file : RunFault → Bool
is_of_file fault = unwrap_or (option_map of_device (failed_file fault)) false

-- a call ends with such an error
abbrev pub ends_at_file : Result (Unit {0}) RunFault → Bool
ends_at_file (Ok done) = false
ends_at_file (Err e) = is_of_file e

-- the error says that memory was refused
abbrev pub is_memory : RunFault → Bool
is_memory fault.Memory = true
is_memory (fault.Words words.Memory) = true
is_memory (fault.Context context.Memory) = true
is_memory (fault.Manifests prepare.Memory) = true
is_memory (fault.Plan plan.Memory) = true
is_memory other = false

-- why stable's version isn't known, where that is the error
abbrev pub stable_reason : RunFault → Option (List ℕ)
stable_reason (fault.Plan (plan.Stable text)) = Some (string_bytes text)
stable_reason other = None

-- the text of an error that is the call's own, that of a command that failed, or why stable's version isn't known; that of any
-- other is written by its type
abbrev pub own_text : RunFault → Option (List ℕ)
own_text fault.Unlisted = Some (codes "failed to write the command list")
own_text fault.Unprinted = Some (codes "failed to write to standard output")
own_text other = option_or (option_map fault_text (failed_command other)) (stable_reason other)

-- that of a file that failed; or the same, and what is said where memory was refused
abbrev pub text_of : RunFault → Option (List ℕ)
text_of fault = option_or (option_map file_text (failed_file fault)) (if is_memory fault then Some (codes "out of memory") else own_text fault)

-- a text is that of the error, where it is known; or it says that memory was refused for it, but not where the error is that
-- of a file, which is named
abbrev pub IsTextOf : RunFault → List ℕ → Type 0
IsTextOf fault text = IfSome (text_of fault) (λ known. text ≡ known) ⊎ ((failed_file fault ≡ None) × (text ≡ codes "out of memory"))

-- ---- advice

-- the command that couldn't be started
abbrev pub unstarted : ProcessFault → Option Name
unstarted (NeverExecuted command) = Some (string_bytes command)
unstarted other = None

-- What to say of it, which is shown in backquotes: that no such program is in the `PATH`, where no variable chose it; else
-- how another is chosen.
abbrev pub choice_of : Env → Name → List ℕ
choice_of env command =
    if bytes_eq (string_bytes env.cargo) (codes "cargo") && starts_with nat_eq command (codes "`cargo ") then codes "no `cargo` is in the `PATH`"
    else if bytes_eq (string_bytes env.rustup) (codes "rustup") && starts_with nat_eq command (codes "`rustup ") then codes "no `rustup` is in the `PATH`"
    else codes "cargo is chosen by CARGO_HACK_CARGO_SRC or CARGO, and rustup by CARGO_HACK_RUSTUP"

-- what the user can do about an error: choose another program where one couldn't be started, or ask for fewer runs
abbrev pub advice_of : Env → RunFault → Option (List ℕ)
advice_of env (fault.Plan plan.TooManyRuns) = Some (codes "--depth and --strength make fewer runs")
advice_of env other = option_map (choice_of env) (option_and_then unstarted (failed_command other))

-- ---- lines

-- an error's line was said
abbrev pub SaysError : RunFault → Coloring → Stream → Stream → Type 0
SaysError fault coloring old new = (text : List ℕ) × IsTextOf fault text × WritesText (error_line coloring text) old new

-- an error's line was said, and before it what the user can do, if anything
abbrev pub SaysEnd : Result (Unit {0}) RunFault → Env → Coloring → Stream → Stream → Type 0
SaysEnd (Ok done) env coloring old new = new ≡ old
SaysEnd (Err fault) env coloring old new =
    (mid : Stream) × WritesAll (map (info_line coloring) (option_to_list (advice_of env fault))) old mid
    × SaysError fault coloring mid new
