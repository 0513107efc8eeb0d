use Rattle.std.proofs.Common.{◌≡◌, ◌∙◌, ◌≤◌, ◌++◌, ◌∷◌, [], List, ℕ, ap, get_or, subst, inl, inr}
use Rattle.hack_plan.specs.Entries.{HasTooMany}
use Rattle.hack_planner.proofs.LeastPlaceLemmas.{many-more}
use Rattle.hack_planner.proofs.least_places.is_passed.Goals as goal

pub returns-in-Err-TooManyRuns : goal.returns-in-Err-TooManyRuns
returns-in-Err-TooManyRuns c = λ passed.
    let s = c.args.limit.input.now in
    let stable = c.args.limit.versions.now.stable in
    let known : c.as_slice.result.now ≡ c.args.limit.counts.now ++ c.args.least ∷ [] =
    c.as_slice.ensures.value ∙ c.in_ok-push.ensures.items ∙ ap (λ (ns : List ℕ). ns ++ c.args.least ∷ []) c.in_ok-known.ensures.items in
    elim c.in-Err-TooManyRuns.ensures.err [
      | inl m ↦ absurd (cc (m, c.in-Err-TooManyRuns.field-0-is))
      | inr many ↦
          many-more s c.in_ok-counts.counts.items (c.args.limit.counts.now ++ c.args.least ∷ []) stable
          (λ p. subst (λ ns. get_or c.in_ok-counts.counts.items p 0 ≤ get_or ns p 0) known (c.in_ok-counts.ensures.fewer p))
          (subst (λ ns. HasTooMany s ns stable) c.as_slice-2.ensures.value many.1)
    ]
