use Rattle.std.proofs.Common.{subst}
use Rattle.std.specs.Prelude.{Bool, is_some}
use Rattle.hack_conflicts.specs.Runs.{finding_of}
use Rattle.hack_features.specs.View.{choice_of}
use Rattle.hack_hunt.specs.Internal.{ListsNone}
use Rattle.hack_hunt.proofs.RuleLemmas.{begun, unnot}
use Rattle.hack_hunt.proofs.listed.lists_none.Goals as goal

pub returns-in-Ok : goal.returns-in-Ok
returns-in-Ok c =
    let made = c.in_ok-closures.ensures in
    subst (λ (b : Bool). ListsNone (choice_of c.args.rules.now) b) (unnot (is_some c.in_ok-first-in-Ok.first) c.is_none.result c.is_none.ensures)
    (begun c.in_ok-closures.closures (choice_of c.args.rules.now) (finding_of c.in-Ok.found) c.in_ok-first-in-Ok.first
    made.choice made.listed made.empty made.all c.in-Ok.ensures.found c.in_ok-first-in-Ok.ensures)
