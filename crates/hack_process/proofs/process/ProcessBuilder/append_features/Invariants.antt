use Rattle.std.proofs.Common.{◌≡◌, string_bytes, map, take, option_map}
use Rattle.hack_process.specs.CommandTexts.{with_names}
use Rattle.hack_process.proofs.process.ProcessBuilder.append_features.Given as goal

abbrev pub invariant-loop-name : goal.invariant-loop-name
invariant-loop-name g l =
    option_map string_bytes l.features ≡ with_names (option_map string_bytes l.self.features) (map g.T.AsStr.text (take l.name-index l.names))
