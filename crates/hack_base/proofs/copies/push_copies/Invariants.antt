use Rattle.std.proofs.Common.{◌≡◌, ◌++◌, take}
use Rattle.hack_base.specs.Names.{names_of}
use Rattle.hack_base.proofs.copies.push_copies.Given as goal

abbrev pub invariant-loop-text : goal.invariant-loop-text
invariant-loop-text l = names_of l.texts.items ≡ names_of l.initial.texts.items ++ names_of (take l.text-index l.more)
