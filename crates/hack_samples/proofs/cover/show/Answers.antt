use Rattle.std.proofs.Common.{subst, List, Bool, ℕ, IfSome}
use Rattle.hack_samples.specs.Sets.{rows_of, tables_of}
use Rattle.hack_samples.specs.Samples.{Shows, IsListedMask}
use Rattle.hack_samples.proofs.SampleLemmas.{sample-more, sizes}
use Rattle.hack_samples.proofs.cover.show.Goals as goal

pub put-requires : goal.put-requires
put-requires g c =
    let may : List Bool → Bool = g.A.Allowed.may c.args.allowed.now in
    let n : ℕ = g.A.Allowed.size c.args.allowed.now in
    let required : List (List ℕ) = rows_of c.args.wanted.now.required.now in
    record {
      sizes = sizes may n required (rows_of c.args.chosen.now.sets.items) c.in-Some.set.items c.requires
          (subst (λ o. IfSome o (λ t. IsListedMask may n required t.items)) c.in-Some.is c.in_ok-picked.ensures.listed);
      ordered = c.requires.ordered;
    }

pub returns-clause-sample : goal.returns-clause-sample
returns-clause-sample g c =
    let may : List Bool → Bool = g.A.Allowed.may c.args.allowed.now in
    let n : ℕ = g.A.Allowed.size c.args.allowed.now in
    let required : List (List ℕ) = rows_of c.args.wanted.now.required.now in
    sample-more may n required (rows_of c.args.chosen.now.sets.items) (rows_of c.put.new.sets.items) c.in-Some.set.items c.requires
    (subst (λ o. IfSome o (λ t. IsListedMask may n required t.items)) c.in-Some.is c.in_ok-picked.ensures.listed)
    c.in_ok-put.ensures.ordered c.in_ok-put.ensures.only

pub returns-clause-shown : goal.returns-clause-shown
returns-clause-shown g c =
    let providers : List (List (List ℕ)) = tables_of c.args.wanted.now.providers.now in
    record {
      by = c.in-Some.set.items;
      chosen = c.in_ok-put.ensures.added;
      shows = subst (λ o. IfSome o (λ t. Shows providers c.args.pattern.now t.items)) c.in-Some.is c.in_ok-picked.ensures.shows;
    }
