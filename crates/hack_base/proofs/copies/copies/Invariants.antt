use Rattle.std.proofs.Common.{◌≡◌, map, take}
use Rattle.hack_base.specs.Names.{names_of}
use Rattle.hack_base.proofs.copies.copies.Given as goal

abbrev pub invariant-loop-text : goal.invariant-loop-text
invariant-loop-text g l = names_of l.copies.items ≡ map g.T.AsStr.text (take l.text-index l.texts)
