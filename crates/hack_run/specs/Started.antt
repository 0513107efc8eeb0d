-- Commands that were started.
use Rattle.std.specs.Prelude.{◌≡◌, List, All, false}
use Rattle.hack_process.specs.Calls.{Call}
use Rattle.hack_process.specs.declared.caller.End.TheVariants.{NeverStarted}
use Rattle.hack_session.specs.StepCalls.{MakesCalls}

-- a command whose output isn't captured was started
abbrev pub WasStarted : Call → Type 0
WasStarted call = call.asked.capture ≡ false → ¬ (call.answer.end ≡ NeverStarted)

-- only such calls were made
abbrev pub MakesStarted : List Call → List Call → Type 0
MakesStarted old new = MakesCalls (All WasStarted) old new
