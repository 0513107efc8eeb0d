use Rattle.std.proofs.Common.{ℕ, List, [], ◌∷◌, ◌++◌, ap, ◌∙◌}
use Rattle.std.specs.Prelude.{codes}
use Rattle.hack_process.specs.CommandTexts.{Command}
use Rattle.hack_process.specs.Commands.{plain_command}
use Rattle.hack_session.proofs.ToolchainLemmas.{joined_targets}
use Rattle.hack_session.proofs.rustup.addition.Goals as goal

pub returns : goal.returns
returns c =
    c.in_ok-args-2.ensures.ok
    ∙ ap (λ (k : Command). record k { own = k.own ++ codes "--target" ∷ c.as_str.result.now ∷ [] })
    (c.in_ok-args.ensures.ok ∙ ap (λ (k : Command). record k { own = k.own ++ codes "toolchain" ∷ codes "add" ∷ c.args.toolchain.now ∷ codes "--no-self-update" ∷ [] }) c.in_ok-command.ensures)
    ∙ ap (λ (ws : List (List ℕ)). plain_command c.args.rustup.now [] ((codes "toolchain" ∷ codes "add" ∷ c.args.toolchain.now ∷ codes "--no-self-update" ∷ []) ++ ws))
    (joined_targets c.args.target.now c.as_str.result.now c.if-is_empty.ensures (c.as_str.ensures.value ∙ c.in_ok-targets.ensures.ok))
