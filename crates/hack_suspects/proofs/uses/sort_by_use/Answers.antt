use Rattle.std.proofs.Common.{◌≡◌, ℕ, List, rules, Vec, Global}
use Rattle.std.specs.declared.cmp.Reverse.{Reverse}
use Rattle.std.proofs.lemmas.Fn.{always_returns_same}
use Rattle.hack_samples.specs.declared.sets.Setting.{Setting}
use Rattle.hack_suspects.specs.Suspects.{RunOutcome, outcomes_of}
use Rattle.hack_suspects.specs.Uses.{uses}
use Rattle.std.proofs.lemmas.Result.{on_ok_weaker}
use Rattle.hack_suspects.proofs.UseLemmas.{sorted-by-use}
use Rattle.hack_suspects.proofs.uses.sort_by_use.Goals as goal

pub returns-clause-ok : goal.returns-clause-ok
returns-clause-ok c =
    let outcomes : List RunOutcome = outcomes_of c.args.outcomes.now in
    let key : Vec Setting Global → Reverse ℕ = λ v. record { 0 = uses outcomes v.items } in
    let computes = always_returns_same _ (λ a r. r ≡ key a.0.now) _ (λ a r f h. search rules) in
    on_ok_weaker c.sort_by_cached_key.result
    (λ sorted. sorted-by-use outcomes c.args.patterns.now c.sort_by_cached_key.new.self c.sort_by_cached_key.ensures.permutation (sorted key computes) (c.sort_by_cached_key.ensures.stable key computes))
    c.sort_by_cached_key.ensures.sorted
