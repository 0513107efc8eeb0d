use Rattle.std.proofs.Common.{◌≡◌, ◌++◌, ◌↔◌, AllPairs, Contains}
use Rattle.hack_session.specs.declared.suspects.Part.{Part}
use Rattle.hack_session.specs.Suspects.{FailsBefore, HasFailedRun}
use Rattle.hack_session.proofs.suspects.failed_parts.Given as goal

abbrev pub invariant-loop-one : goal.invariant-loop-one
invariant-loop-one l = record {
  split : l.yielded ++ l.one-iterator ≡ l.session.handed;
  ordered : AllPairs (FailsBefore l.session.plan l.yielded) l.parts.items;
  exactly : (part : Part) → Contains l.parts.items part ↔ HasFailedRun l.session.plan l.yielded part;
}
