use Rattle.std.proofs.Common.{◌≡◌, map, take, string_bytes}
use Rattle.hack_metadata.specs.Requests.{platform_words}
use Rattle.hack_metadata.proofs.ask.commands.target_words.Given as goal

abbrev pub invariant-loop-target : goal.invariant-loop-target
invariant-loop-target l = map string_bytes l.words.items ≡ platform_words (map string_bytes (take l.target-index l.targets))
