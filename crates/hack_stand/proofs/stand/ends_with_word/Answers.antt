use Rattle.std.proofs.Common.{List, ℕ, bytes_eq, string_bytes, ap, sym, ◌∙◌, arith}
use Rattle.hack_stand.proofs.LineLemmas.{last-decides}
use Rattle.hack_stand.proofs.stand.ends_with_word.Goals as goal

pub returns-in-len1-up : goal.returns-in-len1-up
returns-in-len1-up c =
    c.eq.ensures ∙ ap (λ (l : List ℕ). bytes_eq l c.args.word.now) (c.as_str.ensures.value ∙ ap string_bytes c.last-item.is)
    ∙ sym (last-decides string_bytes c.args.word.now c.args.words.now c.last-item.result (omega arith))
