use Rattle.std.proofs.Common.{◌≡◌, ◌++◌, ◌∷◌, [], List, Bool, sym, subst, ap, ◌∙◌}
use Rattle.hack_conflicts.specs.Sets.{rows_of, IsInside}
use Rattle.hack_conflicts.specs.Internal.{IsQueue, AreCovered}
use Rattle.hack_conflicts.proofs.QueueLemmas.{rows-push, queue_push, covered_push, inside_push}
use Rattle.hack_conflicts.proofs.search.add_set.Goals as goal

pub returns-clause-queue : goal.returns-clause-queue
returns-clause-queue c = λ r size closed less q.
    let old : List (List Bool) = rows_of c.args.next.now.items in
    let e : rows_of c.push.new.self.items ≡ old ++ c.args.set.now ∷ [] =
    ap rows_of c.in_ok-push.ensures.items ∙ rows-push c.args.next.now.items c.in_ok-from_slice.field-0 ∙ ap (λ s. old ++ s ∷ []) c.in_ok-from_slice.ensures.items in
    subst (IsQueue r size) (sym e) (queue_push r size old c.args.set.now closed less q)

pub returns-clause-covered : goal.returns-clause-covered
returns-clause-covered c =
    let old : List (List Bool) = rows_of c.args.next.now.items in
    let e : rows_of c.push.new.self.items ≡ old ++ c.args.set.now ∷ [] =
    ap rows_of c.in_ok-push.ensures.items ∙ rows-push c.args.next.now.items c.in_ok-from_slice.field-0 ∙ ap (λ s. old ++ s ∷ []) c.in_ok-from_slice.ensures.items in
    subst (AreCovered old) (sym e) (covered_push old c.args.set.now)

pub returns-clause-added : goal.returns-clause-added
returns-clause-added c =
    let old : List (List Bool) = rows_of c.args.next.now.items in
    let e : rows_of c.push.new.self.items ≡ old ++ c.args.set.now ∷ [] =
    ap rows_of c.in_ok-push.ensures.items ∙ rows-push c.args.next.now.items c.in_ok-from_slice.field-0 ∙ ap (λ s. old ++ s ∷ []) c.in_ok-from_slice.ensures.items in
    subst (λ l. IsInside l c.args.set.now) (sym e) (inside_push old c.args.set.now)
