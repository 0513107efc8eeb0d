use Rattle.std.proofs.Common.{rules}
use Rattle.toml.specs.Parse.{after_element}
use Rattle.hack_manifest.proofs.plain.behind_item.Goals as goal

pub returns-then-first-eq44-clause-value : goal.returns-then-first-eq44-clause-value
unfolding after_element
returns-then-first-eq44-clause-value c = search rules

pub returns-then-first-eq93-clause-value : goal.returns-then-first-eq93-clause-value
unfolding after_element
returns-then-first-eq93-clause-value c = search rules
