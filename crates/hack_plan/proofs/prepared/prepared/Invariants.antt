use Rattle.std.proofs.Common.{◌≡◌, map, take}
use Rattle.std.specs.List.{filter_map}
use Rattle.hack_plan.specs.Internal.{version_at}
use Rattle.hack_plan.specs.Prepared.{span_of}
use Rattle.hack_plan.proofs.Ready.{AreReady}
use Rattle.hack_plan.proofs.prepared.prepared.Given as goal

abbrev pub invariant-loop-place : goal.invariant-loop-place
invariant-loop-place l = (map span_of l.versions.items ≡ take l.place l.spans) × AreReady l.locked l.clean (filter_map version_at l.spans) l.versions.items
