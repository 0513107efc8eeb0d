use Rattle.std.proofs.Common.{List, Bool, ℕ}
use Rattle.hack_samples.specs.Sets.{rows_of}
use Rattle.hack_samples.proofs.SampleLemmas.{sample-fewer}
use Rattle.hack_samples.proofs.cover.lean_by.Goals as goal

pub returns-clause-sample : goal.returns-clause-sample
returns-clause-sample g c =
    let may : List Bool → Bool = g.A.Allowed.may c.args.allowed.now in
    let n : ℕ = g.A.Allowed.size c.args.allowed.now in
    sample-fewer may n (rows_of c.args.wanted.now.required.now) (rows_of c.in_ok-sets.sets.items) (rows_of c.leave_out.new.sets.items)
    c.in_ok-sets.ensures.sample c.in_ok-leave_out.ensures.only (c.in_ok-leave_out.ensures.ordered c.in_ok-sets.ensures.sample.ordered)

pub returns-clause-covers : goal.returns-clause-covers
returns-clause-covers g c = λ pattern few s listed shows. c.in_ok-leave_out.ensures.shown pattern few (c.in_ok-sets.ensures.covers pattern few s listed shows)
