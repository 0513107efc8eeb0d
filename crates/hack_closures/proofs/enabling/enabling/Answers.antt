use Rattle.std.proofs.Common.{◌≡◌, ◌∷◌, ◌++◌, [], List, Bool, sym, ap, ◌∙◌, subst}
use Rattle.hack_conflicts.specs.Sets.{rows_of}
use Rattle.hack_features.specs.View.{choice_of}
use Rattle.hack_closures.specs.Internal.{AreEnabledRows}
use Rattle.hack_closures.proofs.StepLemmas.{rows_push, enabled_plain, enabled_last}
use Rattle.hack_closures.proofs.enabling.enabling.Goals as goal
use Rattle.hack_closures.proofs.enabling.enabling.Goals.{then-all+in_ok-on_with_all+in_ok-push, else-all}

pub returns : goal.returns
returns c =
    let k = choice_of c.args.rules.now in
    let alone = c.args.alone.now in
    let old : List (List Bool) = rows_of c.in_ok-rows.rows.items in
    elim c.if-all.branch [
      | then-all+in_ok-on_with_all+in_ok-push w ↦
          let row : List Bool = w.in_ok-on_with_all.field-0.items in
          let e : rows_of w.push.new.self.items ≡ old ++ row ∷ [] = ap rows_of w.in_ok-push.ensures.items ∙ rows_push c.in_ok-rows.rows.items w.in_ok-on_with_all.field-0 in
          subst (λ v. AreEnabledRows k alone c.args.all (rows_of v.items)) (sym w.rows-is)
          (subst (AreEnabledRows k alone c.args.all) (sym e) (enabled_last k alone c.args.all old row w.if-all.true c.in_ok-rows.ensures w.in_ok-on_with_all.ensures))
      | else-all w ↦
          subst (λ v. AreEnabledRows k alone c.args.all (rows_of v.items)) (sym w.rows-is) (enabled_plain k alone c.args.all old w.if-all.false c.in_ok-rows.ensures)
    ]
