use Rattle.std.proofs.Common.{◌≡◌, ◌∙◌, ap, codes, false, sym, string_bytes}
use Rattle.std.specs.Prelude.{◌&&◌, nat_eq}
use Rattle.std.specs.List.{starts_with}
use Rattle.std.specs.Str.{bytes_eq}
use Rattle.std.proofs.lemmas.Str.Pattern.{starts_text}
use Rattle.hack_run.proofs.ErrorLemmas.{unchosen}
use Rattle.std.proofs.lemmas.Bool.{and_left, and_right}
use Rattle.hack_run.proofs.tell.choice.Goals as goal
use Rattle.hack_run.proofs.tell.choice.Goals.{else-eq-via-then-eq+else-starts_with, else-eq-via-else-eq, else-eq-2-via-then-eq-2+else-starts_with-2, else-eq-2-via-else-eq-2}

pub returns : goal.returns
returns c =
    let cargo : (bytes_eq (string_bytes c.args.env.now.cargo) (codes "cargo") && starts_with nat_eq c.args.command.now (codes "`cargo ")) ≡ false = elim c.else-eq.branch [
      | else-eq-via-then-eq+else-starts_with w ↦ and_right _ _ (sym (starts_text w.starts_with.result (codes "`cargo ") c.args.command.now w.starts_with.ensures.cases) ∙ w.if-starts_with.false)
      | else-eq-via-else-eq w ↦ and_left _ _ (ap (λ s. bytes_eq s (codes "cargo")) (sym c.as_str.ensures.value) ∙ sym c.eq.ensures ∙ w.if-eq.false)
    ] in
    let rustup : (bytes_eq (string_bytes c.args.env.now.rustup) (codes "rustup") && starts_with nat_eq c.args.command.now (codes "`rustup ")) ≡ false = elim c.else-eq-2.branch [
      | else-eq-2-via-then-eq-2+else-starts_with-2 w ↦ and_right _ _ (sym (starts_text w.starts_with-then-eq-2.result (codes "`rustup ") c.args.command.now w.starts_with-then-eq-2.ensures.cases) ∙ w.if-starts_with-2.false)
      | else-eq-2-via-else-eq-2 w ↦ and_left _ _ (ap (λ s. bytes_eq s (codes "rustup")) (sym c.as_str-2.ensures.value) ∙ sym c.eq-2.ensures ∙ w.if-eq-2.false)
    ] in
    unchosen c.args.env.now c.args.command.now cargo rustup
