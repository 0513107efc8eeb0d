use Rattle.std.proofs.Common.{length}
use denote.Text.{Utf8}
use denote.Shadow.{shadow}
use Rattle.toml.specs.Parse.{val}
use Rattle.hack_manifest.proofs.PairLemmas.{HasPassed}
use Rattle.hack_manifest.proofs.plain.behind_items.Given as goal

-- reading the items continues at the rest
abbrev pub invariant-items : goal.invariant-items
invariant-items l = record { utf8 : shadow (Utf8 l.rest); passed : HasPassed (val 79) l.s l.rest }

abbrev pub decreases-items : goal.decreases-items
decreases-items l = length l.rest
