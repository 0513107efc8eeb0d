use Rattle.std.proofs.Common.{◌≡◌, ◌++◌, take, drop}
use Rattle.hack_base.specs.Names.{names_of}
use Rattle.hack_words.proofs.StartLemmas.{front, trailing}
use Rattle.hack_words.proofs.cli.start.split_at_dashes.Given as goal

abbrev pub invariant-loop-place : goal.invariant-loop-place
invariant-loop-place l =
    (names_of (take l.place l.words) ++ front (names_of (drop l.place l.words)) ≡ front (names_of l.words))
    × (trailing (names_of (drop l.place l.words)) ≡ trailing (names_of l.words))
