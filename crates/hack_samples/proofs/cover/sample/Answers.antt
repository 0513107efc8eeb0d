use Rattle.std.proofs.Common.{List, Bool, ℕ, IfOk}
use Rattle.hack_samples.specs.Sets.{rows_of, tables_of}
use Rattle.hack_samples.specs.Samples.{ShowEachPattern}
use Rattle.hack_samples.proofs.SetLemmas.{both_turned}
use Rattle.hack_samples.proofs.SampleLemmas.{chosen-either}
use Rattle.hack_samples.proofs.cover.sample.Goals as goal

pub returns-clause-covers : goal.returns-clause-covers
returns-clause-covers g c =
    let required : List (List ℕ) = rows_of c.args.required.now in
    let providers : List (List (List ℕ)) = tables_of c.args.providers.now in
    let may : List Bool → Bool = g.A.Allowed.may c.args.allowed.now in
    let n : ℕ = g.A.Allowed.size c.args.allowed.now in
    chosen-either (λ sets. ShowEachPattern may n required providers c.args.strength (rows_of sets.items)) c.in_ok-guided.guided c.lean_by-greedy.result c.chosen_of.result
    c.chosen_of.ensures c.in_ok-guided.ensures.covers
    (both_turned (λ m k. IfOk c.lean_by-greedy.result (λ sets. ShowEachPattern m k required providers c.args.strength (rows_of sets.items)))
    c.lean_by.ensures.same_may c.lean_by.ensures.same_size c.lean_by-greedy.ensures.covers)
