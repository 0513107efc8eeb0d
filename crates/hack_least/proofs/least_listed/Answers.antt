use Rattle.std.proofs.Common.{◌≡◌, ◌∙◌, ◌-◌, ◌^◌, ◌≤◌, ◌+◌, length, sym, subst, ap, arith}
use Rattle.hack_samples.specs.Sets.{IsInside}
use Rattle.hack_features.specs.Samples.{positions_of}
use Rattle.hack_least.proofs.SetLemmas.{enough, none}
use Rattle.hack_least.proofs.least_listed.Goals as goal

pub returns-then-not-branch-clause-least : goal.returns-then-not-branch-clause-least
returns-then-not-branch-clause-least c = none c.args.rules.now

pub returns-clause-least : goal.returns-clause-least
returns-clause-least c =
    let r = c.args.rules.now in
    let most = c.in_ok-most.most.items in
    let least = c.in_ok-least.least.items in
    let all : length c.in_ok-members.members.items ≡ length (positions_of most) = ap length (c.in_ok-members.ensures ∙ ap positions_of c.as_slice-3.ensures.value) in
    let few : length c.in_ok-fewer.fewer.items ≡ length (positions_of least) = ap length (c.in_ok-fewer.ensures ∙ ap positions_of c.as_slice-4.ensures.value) in
    let free : c.saturating_sub.result ≡ length (positions_of most) - length (positions_of least) =
    omega (arith, c.saturating_sub.ensures, c.len.ensures, c.len-2.ensures, all, few) in
    enough r least most c.in_ok-most.ensures.size
    (subst (IsInside least) c.as_slice-2.ensures.value c.in_ok-least.ensures.inside)
    c.in_ok-most.ensures.permitted
    (sym (ap (λ serves. serves (positions_of least)) c.large_set.ensures.same.whole) ∙ c.in_ok-least.ensures.serves)
    c.subsets.result
    (subst (λ n. c.subsets.result + 1 ≤ 2 ^ n) free c.subsets.ensures.least)
