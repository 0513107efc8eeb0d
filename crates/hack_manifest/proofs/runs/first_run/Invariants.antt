use Rattle.std.proofs.Common.{◌≡◌, ℕ, ◌+◌, ◌<◌, take}
use Rattle.hack_manifest.specs.declared.places.ScanState.TheVariants.{Start}
use Rattle.hack_manifest.specs.Internal.{behind}
use Rattle.hack_manifest.specs.LineRuns.{IsRun}
use Rattle.hack_manifest.proofs.runs.first_run.Given as goal

-- no run so far, and the state after these bytes
abbrev pub invariant-loop-i : goal.invariant-loop-i
invariant-loop-i l = record {
  none : (m : ℕ) → m < l.i + 1 → IsRun l.text m → ⊥;
  place : l.place ≡ behind Start (take l.i l.text);
}
