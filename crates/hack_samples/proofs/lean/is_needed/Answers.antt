use Rattle.std.proofs.Common.{◌≡◌, ◌∙◌, ◌+◌, ◌-◌, ◌++◌, [], sym, ap, subst, arith, suc, List, Bool, ℕ, length, take, drop, MatchBool}
use Rattle.std.proofs.lemmas.List.{length-map, take_rest}
use Rattle.std.proofs.lemmas.Result.{IfOk-weaker}
use Rattle.hack_samples.specs.Sets.{rows_of, tables_of}
use Rattle.hack_samples.specs.InternalDescendingPatterns.{IsAlone, IsShownBelow}
use Rattle.hack_samples.proofs.LeanLemmas.{match_turned, needed-row, shown-row}
use Rattle.hack_samples.proofs.lean.is_needed.Goals as goal

pub returns : goal.returns
returns c =
    let providers : List (List (List ℕ)) = tables_of c.args.providers.now in
    let t : ℕ = c.args.strength in
    let i : ℕ = c.args.place in
    let vs = c.args.sets.now in
    let s : List Bool = c.as_slice.result.now in
    let others : List (List Bool) = rows_of (take i vs) ++ rows_of (take (length vs - (i + 1)) (drop (i + 1) vs)) in
    let rest : List (List Bool) = rows_of (take i vs) ++ rows_of (drop (suc i) vs) in
    let next : i + 1 ≡ suc i = omega arith in
    let after : others ≡ rest = ap (λ l. rows_of (take i vs) ++ rows_of l) (take_rest vs (i + 1) ∙ ap (λ n. drop n vs) next) in
    let most : 0 + t ≡ t = omega arith in
    let all : length c.args.providers.now ≡ length providers = sym (length-map c.args.providers.now (λ v. rows_of v.items)) in
    IfOk-weaker c.is_alone.result (λ b. MatchBool b (IsAlone providers (0 + t) s others) (IsShownBelow providers s [] (length c.args.providers.now) t others)) _
    (λ b. match_turned b (IsAlone providers (0 + t) s others) (IsShownBelow providers s [] (length c.args.providers.now) t others) _ _
    (λ h. needed-row providers t vs i c.index-sets-place.result s c.requires c.index-sets-place.is c.as_slice.ensures.value (subst (λ n. IsAlone providers n s rest) most (subst (IsAlone providers (0 + t) s) after h)))
    (λ h. shown-row providers t vs i c.index-sets-place.result s c.requires c.index-sets-place.is c.as_slice.ensures.value
    (subst (λ n. IsShownBelow providers s [] n t rest) all (subst (IsShownBelow providers s [] (length c.args.providers.now) t) after h))))
    c.is_alone.ensures
