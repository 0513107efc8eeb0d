use Rattle.std.proofs.Common.{◌≡◌, ap, sym, ◌∙◌, cond, rules, take}
use Rattle.std.specs.Str.{bytes_eq}
use Rattle.std.specs.Option.{option_map}
use Rattle.hack_files.specs.Memory.{change_of, held_after}
use Rattle.std.specs.Prelude.{string_bytes}
use Rattle.hack_files.proofs.FilesLemmas.{held_more}
use Rattle.hack_files.proofs.memory.held_at.Goals as goal
use Rattle.hack_files.proofs.memory.held_at.Goals.{then-eq, else-eq}

pub loop-step-preserved : goal.loop-step-preserved
loop-step-preserved c =
    let more = held_more c.args.steps.now c.loop-step.step-index c.step-item.result c.args.path.now c.loop-step-test.true c.step-item.is in
    let test : bytes_eq (string_bytes c.step-item.result.path) c.args.path.now ≡ c.eq.result = ap (λ s. bytes_eq s c.args.path.now) (sym c.as_str.ensures.value) ∙ sym c.eq.ensures in
    elim c.if-eq.branch [
      | then-eq w ↦ let found : option_map (λ bytes. bytes.now) c.if-eq.found ≡ (change_of c.step-item.result).bytes = search rules in
          found ∙ sym (more ∙ ap (λ b. cond b (change_of c.step-item.result).bytes (held_after (take c.loop-step.step-index c.args.steps.now) c.args.path.now)) (test ∙ w.if-eq.true))
      | else-eq w ↦ ap (λ f. option_map (λ bytes. bytes.now) f) w.found-is ∙ c.loop-step.invariant
          ∙ sym (more ∙ ap (λ b. cond b (change_of c.step-item.result).bytes (held_after (take c.loop-step.step-index c.args.steps.now) c.args.path.now)) (test ∙ w.if-eq.false))
    ]
