use Rattle.std.proofs.Common.{ap, sym, ◌∙◌, not}
use Rattle.hack_manifest.proofs.RunLemmas.{has_keys-table}
use Rattle.hack_manifest.proofs.path.names_in.Goals as goal

pub returns-in_ok-push_chain-in-Ok-clause-stands :
    goal.returns-in_ok-push_chain-in-Ok-clause-stands
returns-in_ok-push_chain-in-Ok-clause-stands c =
    rw c.in-Ok.ensures.ok (ap not (sym c.if-is_empty.false) ∙ has_keys-table _ _ c.is_empty.ensures)
