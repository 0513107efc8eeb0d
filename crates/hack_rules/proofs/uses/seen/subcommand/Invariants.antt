use Rattle.std.proofs.Common.{◌≡◌, drop}
use Rattle.hack_rules.specs.Uses.{subcommand_of, views}
use Rattle.hack_rules.proofs.uses.seen.subcommand.Given as goal

abbrev pub invariant-loop-one : goal.invariant-loop-one
invariant-loop-one l = subcommand_of (views l.uses) ≡ subcommand_of (views (drop l.one-index l.uses))
