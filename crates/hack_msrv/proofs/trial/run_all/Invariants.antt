use Rattle.std.proofs.Common.{◌≡◌, ◌≤◌, ◌-◌, List, filter, map}
use Rattle.std.specs.List.{range_with_len}
use Rattle.hack_session.specs.Histories.{passed_step}
use Rattle.hack_session.specs.declared.step.Handed.{Handed}
use Rattle.hack_session.specs.declared.step.Step.TheVariants.{Run}
use Rattle.hack_msrv.specs.Trials.{is_of}
use Rattle.hack_msrv.proofs.trial.run_all.Given as goal

-- the package's runs so far passed
abbrev pub invariant-loop-place : goal.invariant-loop-place
invariant-loop-place g l = record {
  behind : l.version.first ≤ l.place;
  within : l.place - l.version.first ≤ l.version.end - l.version.first;
  passed : (handed : List Handed) × g.R.Runner.ran l.plan handed l.fn.runner l.runner
      × (handed ≡ map passed_step (map Run (filter (is_of l.plan l.member) (range_with_len l.version.first (l.place - l.version.first)))));
}
