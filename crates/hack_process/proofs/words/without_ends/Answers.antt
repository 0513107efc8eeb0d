use Rattle.std.proofs.Common.{◌≡◌, ◌-◌, ◌<◌, ◌≤◌, ℕ, List, Bool, true, false, length, take, get_or, arith, ap, sym, ◌∙◌, refl, subst}
use Rattle.std.specs.List.{suffix_len}
use Rattle.std.proofs.lemmas.List.{get_or-take}
use Rattle.std.proofs.lemmas.List.Sums.{suffix_len_is}
use Rattle.hack_process.specs.Faults.{ends_line, without_line_ends}
use Rattle.hack_process.proofs.words.without_ends.Goals as goal

not_true : (b : Bool) → ¬ (b ≡ true) → b ≡ false
not_true true h = absurd (h refl)
not_true false h = refl

-- a front is left whose last byte is no line end, and each byte after it is one
ended : (text front : List ℕ) → length front ≤ length text → front ≡ take (length front) text
    → ((k : ℕ) → length front ≤ k → k < length text → ends_line (get_or text k 0) ≡ true)
    → (0 < length front → ¬ (ends_line (get_or front (length front - 1) 0) ≡ true))
    → front ≡ without_line_ends text
ended text front le e behind last =
    let here : 0 < length front → ends_line (get_or text (length front - 1) 0) ≡ false = λ some.
    ap ends_line (sym (get_or-take (length front) text (length front - 1) 0 (omega arith)) ∙ ap (λ l. get_or l (length front - 1) 0) (sym e)) ∙ not_true _ (last some) in
    let s : suffix_len ends_line text ≡ length text - length front = suffix_len_is ends_line text (length front) 0 le behind here in
    let same : length text - suffix_len ends_line text ≡ length front = omega (arith, s) in
    e ∙ ap (λ k. take k text) (sym same)

pub returns : goal.returns
returns c = ended _ _ c.loop-text.invariant.0 c.loop-text.invariant.1 c.loop-text.invariant.2 (subst (λ (l : List ℕ). 0 < length l → ¬ (ends_line (get_or l (length l - 1) 0) ≡ true)) c.as_bytes.ensures.value c.loop-text-test.ensures.no)
