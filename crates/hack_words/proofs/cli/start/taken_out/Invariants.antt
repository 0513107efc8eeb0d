use Rattle.std.proofs.Common.{◌≡◌, ◌+◌, ◌++◌, drop, cond, length, not}
use Rattle.std.specs.List.{filter}
use Rattle.hack_base.specs.Names.{names_of}
use Rattle.hack_rules.specs.Behavior.{is_cargo}
use Rattle.hack_words.specs.Start.{is_behavior}
use Rattle.hack_words.proofs.cli.start.taken_out.Given as goal

abbrev pub invariant-loop-word : goal.invariant-loop-word
invariant-loop-word l =
    let left = names_of (drop l.word-index l.front) in
    let front = names_of l.front in
    (names_of l.words.items ++ filter (λ w. not (is_behavior w)) left ≡ filter (λ w. not (is_behavior w)) front)
    × (cond (is_cargo l.behavior) 1 0 + length (filter is_behavior left) ≡ length (filter is_behavior front))
