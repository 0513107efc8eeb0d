use Rattle.std.proofs.Common.{◌<◌, ◌+◌, ◌-◌, ◌/◌, ℕ, [], ◌∷◌, ◌++◌, List, arith, refl}
use Rattle.hack_bisect.specs.Searches.{Trial, IsSearch}
use Rattle.hack_bisect.specs.declared.tries.TrialOutcome.TheVariants.{Passed, Failed, Broken}
use Rattle.hack_bisect.specs.declared.find.Least.TheVariants.{Nowhere, Broken as BrokenOff}
use Rattle.hack_bisect.proofs.SearchLemmas.{more, alone_search, passed_more, failed_more, broken_more}
use Rattle.hack_bisect.proofs.RightLemmas.{right_of_search}
use Rattle.hack_bisect.proofs.find.find_least.Goals as goal

pub returns-in-Failed : goal.returns-in-Failed
returns-in-Failed g c =
    let trials : List Trial = record { place = c.args.greatest; outcome = Failed } ∷ [] in
    let search : IsSearch c.args.greatest trials Nowhere = alone_search c.args.greatest Failed Nowhere refl in
    record { searched = (trials, c.in-Failed.ensures, search, right_of_search c.args.greatest trials Nowhere search) }

pub returns-in-Broken : goal.returns-in-Broken
returns-in-Broken g c =
    let trials : List Trial = record { place = c.args.greatest; outcome = Broken } ∷ [] in
    let search : IsSearch c.args.greatest trials BrokenOff = alone_search c.args.greatest Broken BrokenOff ([], c.args.greatest, refl) in
    record { searched = (trials, c.in-Broken.ensures, search, right_of_search c.args.greatest trials BrokenOff search) }

pub loop-low-preserved-in-Passed-try_at : goal.loop-low-preserved-in-Passed-try_at
loop-low-preserved-in-Passed-try_at g c =
    let (trials, ran, going) = c.loop-low.invariant in
    let low = c.loop-low.low in
    let high = c.loop-low.high in
    let middle : ℕ = low + (high - low) / 2 in
    let below : c.loop-low.low < c.loop-low.high = omega (arith, c.loop-low-test.true) in (
      more c.args.greatest trials low high going below middle refl Passed,
      g.met.T.Tries.tried_more trials (record { place = middle; outcome = Passed } ∷ []) c.args.tries.now c.loop-low.tries c.try_at-in-loop-low.new.self ran c.in-Passed-try_at.ensures,
      passed_more c.args.greatest trials low high going below middle refl Passed refl,
    )

pub loop-low-preserved : goal.loop-low-preserved
loop-low-preserved g c =
    let (trials, ran, going) = c.loop-low.invariant in
    let low = c.loop-low.low in
    let high = c.loop-low.high in
    let middle : ℕ = low + (high - low) / 2 in
    let below : c.loop-low.low < c.loop-low.high = omega (arith, c.loop-low-test.true) in (
      more c.args.greatest trials low high going below middle refl Failed,
      g.met.T.Tries.tried_more trials (record { place = middle; outcome = Failed } ∷ []) c.args.tries.now c.loop-low.tries c.try_at-in-loop-low.new.self ran c.in-Failed-try_at.ensures,
      failed_more c.args.greatest trials low high going below middle refl Failed refl,
    )

pub returns-in-Broken-try_at : goal.returns-in-Broken-try_at
returns-in-Broken-try_at g c =
    let (before, ran, going) = c.loop-low.invariant in
    let low = c.loop-low.low in
    let high = c.loop-low.high in
    let middle : ℕ = low + (high - low) / 2 in
    let below : c.loop-low.low < c.loop-low.high = omega (arith, c.loop-low-test.true) in
    let trials : List Trial = before ++ record { place = middle; outcome = Broken } ∷ [] in
    let search : IsSearch c.args.greatest trials BrokenOff = broken_more c.args.greatest before low high going below middle refl Broken refl in
    record {
      searched = (
        trials,
        g.met.T.Tries.tried_more before (record { place = middle; outcome = Broken } ∷ []) c.args.tries.now c.loop-low.tries c.try_at-in-loop-low.new.self ran c.in-Broken-try_at.ensures,
        search,
        right_of_search c.args.greatest trials BrokenOff search,
      );
    }
