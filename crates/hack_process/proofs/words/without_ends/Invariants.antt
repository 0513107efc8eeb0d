use Rattle.std.proofs.Common.{◌≡◌, ◌<◌, ◌≤◌, ℕ, length, take, get_or, true, string_bytes}
use Rattle.hack_process.specs.Faults.{ends_line}
use Rattle.hack_process.proofs.words.without_ends.Given as goal

-- a front of the text is left, and each byte after it is a line feed or a carriage return
abbrev pub invariant-loop-text : goal.invariant-loop-text
invariant-loop-text l = (length (string_bytes l.text) ≤ length (string_bytes l.fn.text))
    × (string_bytes l.text ≡ take (length (string_bytes l.text)) (string_bytes l.fn.text))
    × ((k : ℕ) → length (string_bytes l.text) ≤ k → k < length (string_bytes l.fn.text) → ends_line (get_or (string_bytes l.fn.text) k 0) ≡ true)

abbrev pub decreases-loop-text : goal.decreases-loop-text
decreases-loop-text l = length (string_bytes l.text)
