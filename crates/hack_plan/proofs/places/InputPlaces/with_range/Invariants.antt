use Rattle.std.proofs.Common.{◌<◌, ◌^◌, List, [], length, take, map}
use Rattle.hack_versions.specs.declared.version.Version.{Version}
use Rattle.hack_versions.specs.VersionUses.{UsesAt, AreVersionGroups}
use Rattle.hack_plan.specs.Entries.{AddsEntries}
use Rattle.hack_plan.proofs.SpanLemmas.{ArePartition, version_in}
use Rattle.hack_plan.proofs.Groups.{InGroups}
use Rattle.hack_plan.proofs.places.InputPlaces.with_range.Given as goal

abbrev pub invariant-loop-group : goal.invariant-loop-group
invariant-loop-group l = ((steps : List Version) → AreVersionGroups (UsesAt l.fn.range steps l.input.packages.items) l.group-items → AddsEntries (InGroups l.input l.counts steps (take l.group-index l.group-items)) [] l.places.entries × ArePartition (map version_in (take l.group-index l.group-items)) l.places) × (length l.places.entries < 2 ^ 32)
