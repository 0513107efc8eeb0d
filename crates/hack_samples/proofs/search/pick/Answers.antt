use Rattle.std.proofs.Common.{◌∙◌, sym, ap, subst, List, Bool, ℕ, MatchOption}
use Rattle.hack_samples.specs.Sets.{has_each, rows_of, tables_of, IsInside}
use Rattle.hack_samples.specs.Internal.{Meets, NoneShows}
use Rattle.hack_samples.specs.Samples.{Shows}
use Rattle.hack_samples.proofs.SetLemmas.{has_each-inside}
use Rattle.hack_samples.proofs.search.pick.Goals as goal

pub returns-clause-listed : goal.returns-clause-listed
returns-clause-listed g c =
    let may : List Bool → Bool = g.A.Allowed.may c.args.allowed.now in
    let n : ℕ = g.A.Allowed.size c.args.allowed.now in
    let providers : List (List (List ℕ)) = tables_of c.args.wanted.now.providers.now in
    let groups : List (List ℕ) = rows_of c.as_slice-2.result.now in
    let free : List Bool = c.as_slice-3.result.now in
    let s : List Bool = c.in-Some.set.items in
    let t : List Bool = c.in_ok-set-2.set.items in
    let suited = c.in_ok-set-2.ensures.suited in
    let inside : IsInside s t = subst (λ l. IsInside l t) c.as_slice-6.ensures.value c.in_ok-set-2.ensures.inside in
    let found : Meets may n groups free s × Shows providers c.args.pattern.now s =
    subst (λ o. MatchOption o (NoneShows may n groups free providers c.args.pattern.now) (λ v. Meets may n groups free v.items × Shows providers c.args.pattern.now v.items)) c.in-Some.is c.in_ok-set.ensures.finds in
    record {
      size = suited.size ∙ c.find.ensures.same_size;
      allowed = ap (λ m. m t) (sym c.find.ensures.same_may) ∙ suited.allowed;
      met = sym (c.in_ok-groups.ensures t) ∙ ap (λ l. has_each t (rows_of l)) (sym c.as_slice-2.ensures.value) ∙ has_each-inside s t groups inside found.0.met;
    }
