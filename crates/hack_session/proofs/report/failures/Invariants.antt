use Rattle.std.proofs.Common.{◌≡◌, ◌++◌, map}
use Rattle.std.specs.List.{filter_map}
use Rattle.hack_session.specs.Reports.{failure_of}
use Rattle.hack_session.specs.Internal.{failure_view}
use Rattle.hack_session.proofs.report.failures.Given as goal

abbrev pub invariant-loop-one : goal.invariant-loop-one
invariant-loop-one l = map failure_view l.failures.items ++ filter_map (failure_of l.plan) l.one-iterator ≡ filter_map (failure_of l.plan) l.initial.one-iterator
