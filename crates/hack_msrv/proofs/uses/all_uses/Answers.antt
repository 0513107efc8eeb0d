use Rattle.std.proofs.Common.{◌≡◌, ◌∙◌, ◌+◌, ◌++◌, ◌∷◌, [], List, Vec, Global, ℕ, ap, arith, map, sym}
use Rattle.std.proofs.lemmas.List.{map-append}
use Rattle.std.proofs.lemmas.List.FromFn.{map-range_with_len_more}
use Rattle.std.specs.List.{range_with_len}
use Rattle.hack_msrv.specs.Searches.{uses_of}
use Rattle.hack_msrv.proofs.uses.all_uses.Goals as goal

pub loop-member-preserved : goal.loop-member-preserved
loop-member-preserved c =
    let plan = c.args.plan.now in
    let member = c.loop-member.member in
    let items : Vec ℕ Global → List ℕ = λ u. u.items in
    let one = c.in_ok-uses.field-0 in
    let at : 0 + member ≡ member = omega arith in
    ap (map items) c.in_ok-push.ensures.items ∙ map-append items c.loop-member.all.items (one ∷ [])
    ∙ ap (λ (l : List (List ℕ)). l ++ one.items ∷ []) c.loop-member.invariant
    ∙ ap (λ (u : List ℕ). map (uses_of plan) (range_with_len 0 member) ++ u ∷ []) c.in_ok-uses.ensures
    ∙ sym (map-range_with_len_more (uses_of plan) 0 member member at)
