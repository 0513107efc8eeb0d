use Rattle.std.proofs.Common.{◌≡◌, take, map, List, ℕ, Bor}
use Rattle.hack_base.specs.Names.{names_of}
use Rattle.hack_load.proofs.process.all_features.Given as goal

-- the features so far
abbrev pub invariant-loop-name : goal.invariant-loop-name
invariant-loop-name l = map (λ (word : Bor (List ℕ)). word.now) l.names.items ≡ names_of (take l.name-index l.cx.args.features.items)
