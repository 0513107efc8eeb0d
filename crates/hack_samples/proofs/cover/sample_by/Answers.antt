use Rattle.std.proofs.Common.{◌∙◌, [], sym, subst, List, Bool, ℕ, length}
use Rattle.std.proofs.lemmas.List.{length-map}
use Rattle.hack_samples.specs.Sets.{rows_of, tables_of}
use Rattle.hack_samples.specs.Samples.{IsMaskSample}
use Rattle.hack_samples.specs.InternalDescendingPatterns.{CoversBelow}
use Rattle.hack_samples.proofs.SetLemmas.{both_turned}
use Rattle.hack_samples.proofs.CoverLemmas.{covers-whole}
use Rattle.hack_samples.proofs.cover.sample_by.Goals as goal

pub follow-requires : goal.follow-requires
follow-requires g c =
    both_turned (λ m k. IsMaskSample m k (rows_of c.args.wanted.now.required.now) (rows_of c.loop-row.chosen.sets.items))
    (sym c.loop-row.invariant.same_may) (sym c.loop-row.invariant.same_size) c.loop-row.invariant.sample

pub returns-in_err-follow-clause-within : goal.returns-in_err-follow-clause-within
returns-in_err-follow-clause-within g c = λ k end old. c.follow.ensures.within k end (c.loop-row.invariant.within k end old)

pub loop-row-preserved : goal.loop-row-preserved
loop-row-preserved g c =
    let inv = c.loop-row.invariant in
    let made = c.follow.ensures in
    record {
      sample = both_turned (λ m k. IsMaskSample m k (rows_of c.args.wanted.now.required.now) (rows_of c.follow.new.chosen.sets.items)) inv.same_may inv.same_size c.in_ok-follow.ensures.sample;
      within = λ k end old. made.within k end (inv.within k end old);
      same_size = made.same_size ∙ inv.same_size;
      same_may = made.same_may ∙ inv.same_may;
      stays = λ first old. made.stays first (inv.stays first old);
    }

pub cover-requires : goal.cover-requires
cover-requires g c =
    both_turned (λ m k. IsMaskSample m k (rows_of c.args.wanted.now.required.now) (rows_of c.loop-row.chosen.sets.items))
    (sym c.loop-row.invariant.same_may) (sym c.loop-row.invariant.same_size) c.loop-row.invariant.sample

pub returns-in_err-cover-clause-within : goal.returns-in_err-cover-clause-within
returns-in_err-cover-clause-within g c = λ k end old. c.cover.ensures.within k end (c.loop-row.invariant.within k end old)

pub returns-clause-within : goal.returns-clause-within
returns-clause-within g c = λ k end old. c.cover.ensures.within k end (c.loop-row.invariant.within k end old)

pub returns-clause-sample : goal.returns-clause-sample
returns-clause-sample g c =
    both_turned (λ m k. IsMaskSample m k (rows_of c.args.wanted.now.required.now) (rows_of c.cover.new.chosen.sets.items)) c.loop-row.invariant.same_may c.loop-row.invariant.same_size c.in_ok-cover.ensures.sample

pub returns-clause-covers : goal.returns-clause-covers
returns-clause-covers g c =
    let may : List Bool → Bool = g.A.Allowed.may c.args.allowed.now in
    let n : ℕ = g.A.Allowed.size c.args.allowed.now in
    let required : List (List ℕ) = rows_of c.args.wanted.now.required.now in
    let providers : List (List (List ℕ)) = tables_of c.args.wanted.now.providers.now in
    let sets : List (List Bool) = rows_of c.cover.new.chosen.sets.items in
    covers-whole may n required providers c.args.wanted.now.strength sets
    (subst (λ m. CoversBelow may n required providers [] m c.args.wanted.now.strength sets) (sym (length-map c.args.wanted.now.providers.now (λ v. rows_of v.items)))
    (both_turned (λ m k. CoversBelow m k required providers [] (length c.args.wanted.now.providers.now) c.args.wanted.now.strength sets) c.loop-row.invariant.same_may c.loop-row.invariant.same_size c.in_ok-cover.ensures.covered))
