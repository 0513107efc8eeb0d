use Rattle.std.proofs.Common.{◌≡◌}
use Rattle.serde_json.specs.View.{members_view}
use Rattle.hack_base.specs.Names.{names_of}
use Rattle.hack_metadata.specs.RuleTables.{other_key}
use Rattle.hack_metadata.proofs.RuleLemmas.{first_other}
use Rattle.hack_metadata.proofs.metadata.rules.other_key.Given as goal

-- the keys so far are known
abbrev pub invariant-loop-key : goal.invariant-loop-key
invariant-loop-key l = first_other (names_of l.key-iterator) ≡ other_key (members_view l.object.entries)
