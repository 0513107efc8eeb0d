use Rattle.std.proofs.Common.{◌<◌, ◌-◌, ◌∙◌, ap, sym, length, leb, rules, of_calls, arith, Some, None, slice_get}
use Rattle.std.proofs.lemmas.Fn.{always_returns_same}
use Rattle.hack_plan.specs.declared.blocks.Block.{Block}
use Rattle.hack_plan.specs.Blocks.{entry_at}
use Rattle.hack_plan.proofs.BlockLemmas.{IsFound, placed, run_at, ends_rise, length-entries_of}
use Rattle.hack_plan.proofs.blocks.Blocks.run.Goals as goal

pub index-block-requires : goal.index-block-requires
index-block-requires c =
    let blocks = c.self.inside.blocks.items in
    let total : c.args.place < c.self.inside.total = omega (arith, c.self.invariant.all, length-entries_of c.self.inside.blocks.items, ap length c.self.view_is, c.requires) in
    let point = c.partition_point-at.ensures.partitioned (λ t. leb t.end c.args.place) (always_returns_same _ _ _ (λ a r f k. search (rules, of_calls))) (rw c.deref.ensures.value (ends_rise c.self.inside.blocks.items c.self.inside.total c.self.invariant c.args.place)) in
    let b : Block = record { version = None; slot = 0; «package» = None; runs = 0; end = 0 } in
    let f = placed c.self.inside.blocks.items c.self.inside.total c.args.place c.partition_point-at.result b c.self.invariant total (omega arith) (rw c.deref.ensures.value at point) in
    omega (arith, f.bound, c.deref.ensures.len, ap length c.deref.ensures.value)

inside : (c : goal.After-result-2-1) → IsFound c.self.inside.blocks.items c.args.place c.partition_point-at.result c.index-block.result.now
inside c =
    let blocks = c.self.inside.blocks.items in
    let total : c.args.place < c.self.inside.total = omega (arith, c.self.invariant.all, length-entries_of c.self.inside.blocks.items, ap length c.self.view_is, c.requires) in
    let point = c.partition_point-at.ensures.partitioned (λ t. leb t.end c.args.place) (always_returns_same _ _ _ (λ a r f k. search (rules, of_calls))) (rw c.deref.ensures.value (ends_rise c.self.inside.blocks.items c.self.inside.total c.self.invariant c.args.place)) in
    placed c.self.inside.blocks.items c.self.inside.total c.args.place c.partition_point-at.result c.index-block.result.now c.self.invariant total (omega arith) (rw c.deref.ensures.value at point)

pub overflow_sub-result : goal.overflow_sub-result
overflow_sub-result c = omega (arith, (inside c).start, (inside c).low, ap (λ (x : Block). x.end) c.index-block.ensures, ap (λ (x : Block). x.runs) c.index-block.ensures)

pub overflow_sub-result-2 : goal.overflow_sub-result-2
overflow_sub-result-2 c = omega (arith, (inside c).start, (inside c).low, ap (λ (x : Block). x.end) c.index-block.ensures, ap (λ (x : Block). x.runs) c.index-block.ensures)

pub returns : goal.returns
returns c =
    ap (λ entries. slice_get entries c.args.place) (sym c.self.view_is)
    ∙ run_at c.self.inside.blocks.items c.args.place c.partition_point-at.result c.index-block.result.now (inside c)
    ∙ ap (λ (x : Block). Some (entry_at x (c.args.place - (x.end - x.runs)))) (sym c.index-block.ensures)
