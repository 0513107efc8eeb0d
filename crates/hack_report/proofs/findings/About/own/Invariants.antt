use Rattle.std.proofs.Common.{◌≡◌, drop, map}
use Rattle.std.specs.List.{find}
use Rattle.hack_load.specs.ContextView.{context_view}
use Rattle.hack_metadata.specs.RecordViews.{place_at}
use Rattle.hack_report.specs.Findings.{is_named}
use Rattle.hack_report.proofs.findings.About.own.Given as goal

-- the first member of the name is among those that are left
abbrev pub invariant-loop-id : goal.invariant-loop-id
invariant-loop-id l = find (is_named (context_view l.self.cx.now) l.self.name.now) (map place_at (drop l.id-index l.id-items)) ≡ find (is_named (context_view l.self.cx.now) l.self.name.now) (context_view l.self.cx.now).metadata.workspace_members
