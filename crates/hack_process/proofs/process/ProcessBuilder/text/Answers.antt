use Rattle.std.proofs.Common.{◌≡◌, ◌++◌, ◌∙◌, ◌||◌, IfOk, List, ℕ, sym, ap, subst, codes, string_bytes}
use Rattle.hack_process.specs.CommandTexts.{shown_program, words_of}
use Rattle.hack_process.specs.Commands.{command_of}
use Rattle.hack_process.proofs.process.ProcessBuilder.text.Goals as goal
use Rattle.hack_process.proofs.process.ProcessBuilder.text.Goals.{then-long, else-long}

pub returns : goal.returns
returns c =
    let full : c.if-long.line ≡ (c.args.long || c.args.verbose) = elim c.if-long.branch [ then-long w ↦ w.line-is ∙ w.if-long.true ∙ ap (λ b. b || c.args.verbose) (sym w.if-long.true) | else-long w ↦ w.line-is ∙ ap (λ b. b || c.args.verbose) (sym w.if-long.false) ] in
    let line = c.line-line.ensures ∙ ap (λ b. words_of (shown_program b (command_of c.args.self.now)) b c.args.dir.now (command_of c.args.self.now)) full in
    let P : List ℕ → Type 0 = λ l. IfOk c.format.result (λ t. string_bytes t ≡ codes "`" ++ l ++ codes "`") in
    subst P line c.format.ensures.ok
