use Rattle.std.proofs.Common.{◌≡◌, drop, map, string_bytes}
use Rattle.hack_stand.specs.Words.{has_word}
use Rattle.hack_stand.proofs.stand.has_word.Given as goal

-- the arguments before are others
abbrev pub invariant-loop-found : goal.invariant-loop-found
invariant-loop-found l = has_word l.word (map string_bytes l.words) ≡ has_word l.word (map string_bytes (drop l.found-index l.words))
