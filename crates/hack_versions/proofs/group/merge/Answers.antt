use Rattle.std.proofs.Common.{◌≡◌, ◌++◌, rules, inl, inr}
use Rattle.std.proofs.lemmas.List.Elements.{Contains-append_left, Contains-append_right, Contains-append_cases}
use Rattle.hack_versions.proofs.group.merge.Goals as goal

pub returns-clause-exact : goal.returns-clause-exact
returns-clause-exact c = λ v.
    let e : c.extend_from_slice.new.self.items ≡ c.args.front.now ++ c.args.others.now = search rules in
    let all = rw e at c.put_in_order.ensures.exact in (
      λ k. Contains-append_cases c.args.front.now c.args.others.now v ((all v).0 k),
      λ k. (all v).1 (elim k [
        | inl w ↦ Contains-append_left c.args.front.now c.args.others.now v w
        | inr w ↦ Contains-append_right c.args.front.now c.args.others.now v w
      ]),
    )
