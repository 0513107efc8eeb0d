use Rattle.std.proofs.Common.{rules}
use Rattle.toml.specs.Parse.{atom}
use Rattle.hack_manifest.proofs.plain.behind_word.Goals as goal

pub returns-in-Ok-clause-value : goal.returns-in-Ok-clause-value
unfolding atom
returns-in-Ok-clause-value c = search rules
