use Rattle.std.proofs.Common.{◌≡◌, drop}
use Rattle.std.specs.List.{find}
use Rattle.hack_base.specs.Names.{names_of}
use Rattle.hack_rules.specs.EarlyRules.{selects_targets}
use Rattle.hack_rules.proofs.early.target_choice.Given as goal

abbrev pub invariant-loop-word : goal.invariant-loop-word
invariant-loop-word l = find selects_targets (names_of l.leading) ≡ find selects_targets (names_of (drop l.word-index l.leading))
