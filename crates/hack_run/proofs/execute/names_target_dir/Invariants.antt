use Rattle.std.proofs.Common.{◌≡◌, drop}
use Rattle.hack_base.specs.Names.{names_of}
use Rattle.hack_run.specs.Lanes.{names_target_dir}
use Rattle.hack_run.proofs.execute.names_target_dir.Given as goal

abbrev pub invariant-loop-word : goal.invariant-loop-word
invariant-loop-word l = names_target_dir (names_of l.words) ≡ names_target_dir (names_of (drop l.word-index l.words))
