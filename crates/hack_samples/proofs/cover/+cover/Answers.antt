use Rattle.std.proofs.Common.{◌≡◌, ◌∙◌, ◌<◌, ◌-◌, ◌++◌, ◌∷◌, [], subst, List, Bool, ℕ, true, arith}
use Rattle.hack_samples.specs.Sets.{rows_of, tables_of}
use Rattle.hack_samples.specs.Samples.{IsMaskSample}
use Rattle.hack_samples.specs.InternalDescendingPatterns.{CoversBelow, AreKept}
use Rattle.hack_samples.specs.declared.sets.Setting.{Setting}
use Rattle.hack_samples.proofs.SetLemmas.{both_turned}
use Rattle.hack_samples.proofs.SampleLemmas.{some-kept}
use Rattle.hack_samples.proofs.CoverLemmas.{covers-all, covers-kept, covers-step}
use Rattle.hack_samples.proofs.cover.+cover.Goals as goal

pub loop-candidate-preserved : goal.loop-candidate-preserved
loop-candidate-preserved g t c =
    let may : List Bool → Bool = g.A.Allowed.may c.args.allowed.now in
    let n : ℕ = g.A.Allowed.size c.args.allowed.now in
    let required : List (List ℕ) = rows_of c.args.wanted.now.required.now in
    let providers : List (List (List ℕ)) = tables_of c.args.wanted.now.providers.now in
    let pattern : List Setting = c.args.pattern.now in
    let more : ℕ = c.args.further.more - 1 in
    let f : ℕ = c.loop-candidate.candidate in
    let first : List (List Bool) = rows_of c.loop-candidate.chosen.sets.items in
    let second : List (List Bool) = rows_of c.cover.new.chosen.sets.items in
    let third : List (List Bool) = rows_of c.cover-in-loop-candidate.new.chosen.sets.items in
    let inv = c.loop-candidate.invariant in
    let one : AreKept first second = c.in_ok-cover.ensures.kept in
    let two : AreKept second third = c.in_ok-cover-2.ensures.kept in
    let both : AreKept first third = λ s h. two s (one s h) in
    let may-2 : g.A.Allowed.may c.cover.new.allowed ≡ may = c.cover.ensures.same_may ∙ inv.same_may in
    let size-2 : g.A.Allowed.size c.cover.new.allowed ≡ n = c.cover.ensures.same_size ∙ inv.same_size in
    record {
      sample = both_turned (λ m k. IsMaskSample m k required third) may-2 size-2 c.in_ok-cover-2.ensures.sample;
      kept = λ s h. both s (inv.kept s h);
      shown = some-kept providers pattern first third both inv.shown;
      covered = covers-step may n required providers pattern f more third
          (λ x lt. covers-kept may n required providers (pattern ++ x ∷ []) x.candidate more first third both (inv.covered x lt))
          (covers-kept may n required providers (pattern ++ record { candidate = f; on = true } ∷ []) f more second third two
          (subst (λ p. CoversBelow may n required providers p f more second) (c.as_slice-next.ensures.value ∙ c.in_ok-on.ensures)
          (both_turned (λ m k. CoversBelow m k required providers c.as_slice-next.result.now f more second) inv.same_may inv.same_size c.in_ok-cover.ensures.covered)))
          (subst (λ p. CoversBelow may n required providers p f more third) (c.as_slice-next-in-loop-candidate.ensures.value ∙ c.in_ok-off.ensures)
          (both_turned (λ m k. CoversBelow m k required providers c.as_slice-next-in-loop-candidate.result.now f more third) may-2 size-2 c.in_ok-cover-2.ensures.covered));
      within = λ k end old. c.cover-in-loop-candidate.ensures.within k end (c.cover.ensures.within k end (inv.within k end old));
      same_size = c.cover-in-loop-candidate.ensures.same_size ∙ size-2;
      same_may = c.cover-in-loop-candidate.ensures.same_may ∙ may-2;
      stays = λ first old. c.cover-in-loop-candidate.ensures.stays first (c.cover.ensures.stays first (inv.stays first old));
    }

pub returns-clause-covered : goal.returns-clause-covered
returns-clause-covered g t c =
    covers-all (g.A.Allowed.may c.args.allowed.now) (g.A.Allowed.size c.args.allowed.now) (rows_of c.args.wanted.now.required.now) (tables_of c.args.wanted.now.providers.now) c.args.pattern.now c.args.further.limit c.args.further.more
    (rows_of c.loop-candidate.chosen.sets.items) c.loop-candidate.invariant.shown
    (λ x lt pos. let below : x.candidate < c.loop-candidate.candidate = omega (arith, c.loop-candidate-test.false) in c.loop-candidate.invariant.covered x below)

pub returns-in_err-cover-clause-within : goal.returns-in_err-cover-clause-within
returns-in_err-cover-clause-within g t c = λ k end old. c.cover.ensures.within k end (c.loop-candidate.invariant.within k end old)

pub returns-in_err-off-clause-within : goal.returns-in_err-off-clause-within
returns-in_err-off-clause-within g t c = λ k end old. c.cover.ensures.within k end (c.loop-candidate.invariant.within k end old)

pub returns-in_err-cover-2-clause-within : goal.returns-in_err-cover-2-clause-within
returns-in_err-cover-2-clause-within g t c = λ k end old. c.cover-in-loop-candidate.ensures.within k end (c.cover.ensures.within k end (c.loop-candidate.invariant.within k end old))
