use Rattle.std.proofs.Common.{List, Bool, subst, ap, ◌∙◌}
use Rattle.std.proofs.lemmas.List.{map-append}
use Rattle.hack_conflicts.specs.Sets.{rows_of}
use Rattle.hack_conflicts.specs.Runs.{runs_in}
use Rattle.hack_conflicts.specs.Internal.{AreOthers, told}
use Rattle.hack_conflicts.proofs.found.conclude.Goals as goal

pub returns-clause-passing : goal.returns-clause-passing
returns-clause-passing c =
    let k = c.args.known in
    let others : List (List Bool) = rows_of c.in_ok-others.others.items in (
      others,
      ap rows_of c.in_ok-append.ensures.items ∙ map-append (λ v. v.items) k.passing.items c.in_ok-others.others.items,
      subst (λ l. AreOthers (rows_of l) (told k) others) c.as_slice.ensures.value (subst (λ l. AreOthers (rows_of c.as_slice.result.now) (runs_in l) others) c.as_slice-2.ensures.value c.in_ok-others.ensures),
    )
