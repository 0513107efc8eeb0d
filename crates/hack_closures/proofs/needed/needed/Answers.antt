use Rattle.std.proofs.Common.{◌≡◌, ◌∷◌, ◌++◌, [], List, Bool, sym, ap, ◌∙◌, subst, cond, append-nil, map}
use Rattle.hack_conflicts.specs.Sets.{rows_of}
use Rattle.hack_sets.specs.Sets.{IsSelection}
use Rattle.hack_features.specs.View.{choice_of}
use Rattle.hack_features.proofs.CandidateLemmas.{length-candidates_of}
use Rattle.hack_closures.specs.Internal.{AreServing, AreNeeded}
use Rattle.hack_closures.proofs.RowLemmas.{marked, every}
use Rattle.hack_closures.proofs.StepLemmas.{rows_push}
use Rattle.hack_closures.proofs.needed.needed.Goals as goal
use Rattle.hack_closures.proofs.needed.needed.Goals.{then-not-with_empty+in_ok-every+in_ok-push, else-not-with_empty}

pub returns : goal.returns
returns c =
    let k = choice_of c.args.rules.now in
    let alone = c.args.alone.now in
    let all : Bool = c.args.all in
    let serving : List (List Bool) = rows_of c.serving.result.now in
    let served : AreServing k serving = λ s sel. c.serving.ensures s (subst (λ n. IsSelection n s) (length-candidates_of c.args.rules.now.given.features.now) sel) in
    let old : List (List Bool) = rows_of c.in_ok-rows.rows.items in
    let first : List (List Bool) = map (marked alone all) serving in
    let was : old ≡ first = c.in_ok-rows.ensures in
    elim c.if-not-with_empty.branch [
      | then-not-with_empty+in_ok-every+in_ok-push w ↦
          let row : List Bool = w.in_ok-every.field-0.items in
          let e : rows_of w.push.new.self.items ≡ first ++ every alone all ∷ [] =
          ap rows_of w.in_ok-push.ensures.items ∙ rows_push c.in_ok-rows.rows.items w.in_ok-every.field-0 ∙ ap (λ l. l ++ row ∷ []) was ∙ ap (λ v. first ++ v ∷ []) w.in_ok-every.ensures in
          subst (λ v. AreNeeded k alone c.args.with_empty all (rows_of v.items)) (sym w.rows-is)
          (record { serving = serving; served = served; made = e ∙ ap (λ b. first ++ cond b [] (every alone all ∷ [])) (sym w.if-not-with_empty.true) })
      | else-not-with_empty w ↦
          subst (λ v. AreNeeded k alone c.args.with_empty all (rows_of v.items)) (sym w.rows-is)
          (record { serving = serving; served = served; made = was ∙ sym (append-nil first) ∙ ap (λ b. first ++ cond b [] (every alone all ∷ [])) (sym w.if-not-with_empty.false) })
    ]
