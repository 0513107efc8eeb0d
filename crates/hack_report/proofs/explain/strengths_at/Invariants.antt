use Rattle.std.proofs.Common.{map, take}
use Rattle.std.specs.List.{AllZip}
use Rattle.hack_load.specs.ContextView.{context_view}
use Rattle.hack_report.specs.Explained.{IsStrengthAt}
use Rattle.hack_report.proofs.explain.strengths_at.Given as goal

-- the strengths of the packages so far
abbrev pub invariant-loop-id : goal.invariant-loop-id
invariant-loop-id l = AllZip (IsStrengthAt (context_view l.fn.cx)) (take l.id-index (map (λ id. id.index) l.ids)) l.strengths.items
