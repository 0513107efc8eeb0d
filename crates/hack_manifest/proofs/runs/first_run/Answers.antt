use Rattle.std.proofs.Common.{◌<◌, ◌+◌, length, sym, ◌∙◌}
use Rattle.hack_manifest.specs.declared.places.ScanState.TheVariants.{Start}
use Rattle.hack_manifest.specs.LineRuns.{IsRun}
use Rattle.hack_manifest.proofs.PlaceLemmas.{behind-take, no_run-next}
use Rattle.hack_manifest.proofs.runs.first_run.Goals as goal

pub run_stands-requires-clause-place : goal.run_stands-requires-clause-place
run_stands-requires-clause-place c =
    let within : c.loop-i.i < length c.args.text.now = rw c.as_bytes-bytes.ensures.value at c.loop-i-test.true in
    c.step-place.ensures ∙ rw (c.as_bytes-bytes.ensures.value, c.loop-i.invariant.place) (sym (behind-take Start c.args.text.now c.loop-i.i within))

pub loop-i-preserved : goal.loop-i-preserved
loop-i-preserved c =
    let within : c.loop-i.i < length c.args.text.now = rw c.as_bytes-bytes.ensures.value at c.loop-i-test.true in
    let here : IsRun c.args.text.now (c.loop-i.i + 1) → ⊥ = c.in_ok-run_stands.ensures.no c.if-branch.false in
    record {
      none = no_run-next c.args.text.now c.loop-i.i c.loop-i.invariant.none here;
      place = c.step-place.ensures ∙ rw (c.as_bytes-bytes.ensures.value, c.loop-i.invariant.place) (sym (behind-take Start c.args.text.now c.loop-i.i within));
    }
