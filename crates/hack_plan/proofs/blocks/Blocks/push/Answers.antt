use Rattle.std.proofs.Common.{rules, ◌≡◌, ◌∙◌, ◌++◌, ◌∷◌, [], ap, sym, refl, length, arith, inr}
use Rattle.hack_plan.specs.declared.blocks.Block.{Block}
use Rattle.hack_plan.specs.Blocks.{entries_in, entries_of}
use Rattle.hack_plan.proofs.BlockLemmas.{Lists-entries_in, entries_of-push, length-entries_of, Overfills-block}
use Rattle.hack_plan.proofs.blocks.Blocks.push.Goals as goal
use Rattle.hack_plan.proofs.blocks.Blocks.push.Goals.{in_default-via-in-Some+else-end-le-MOST_PLACES, in_default-via-in_default}

pub returns-in_default-clause-err : goal.returns-in_default-clause-err
returns-in_default-clause-err c =
    let total : c.self.inside.total ≡ length c.args.self.now = c.self.invariant.all ∙ sym (length-entries_of c.self.inside.blocks.items) ∙ ap length c.self.view_is in
    let b : Block = record { version = c.args.version; slot = c.args.slot; «package» = c.args.member; runs = c.args.runs; end = 0 } in
    inr (
      refl,
      Overfills-block b c.args.self.now (elim c.in_default.branch [
        | in_default-via-in-Some+else-end-le-MOST_PLACES w ↦ omega (arith, w.in-Some.ensures, total)
        | in_default-via-in_default w ↦ omega (arith, w.in_default.ensures, total)
      ]),
    )

pub returns-clause-ok : goal.returns-clause-ok
returns-clause-ok c =
    let b : Block = record { version = c.args.version; slot = c.args.slot; «package» = c.args.member; runs = c.args.runs; end = c.in-Some.end } in
    let items : c.push.new.self.items ≡ c.self.inside.blocks.items ++ b ∷ [] = search rules in
    record { added = entries_in b; grown = ap entries_of items ∙ entries_of-push c.self.inside.blocks.items b ∙ ap (λ t. t ++ entries_in b) c.self.view_is; lists = Lists-entries_in b }
