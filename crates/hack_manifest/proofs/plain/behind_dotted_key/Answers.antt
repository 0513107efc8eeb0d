use Rattle.std.proofs.Common.{rules}
use Rattle.toml.specs.Parse.{key_equals}
use Rattle.hack_manifest.proofs.plain.behind_dotted_key.Goals as goal

pub returns-then-first-eq61 : goal.returns-then-first-eq61
unfolding key_equals
returns-then-first-eq61 c = search rules
