use Rattle.std.proofs.Common.{◌∙◌, sym, subst, ℕ, Bool, rules, tests, Contains, nat_eq, refl, eqb-true, eq-eqb}
use Rattle.std.specs.List.{list_any}
use Rattle.std.proofs.lemmas.Iterator.{YieldsList-from_slice}
use Rattle.std.proofs.lemmas.Iterator.Search.{any_from_yields_List}
use Rattle.std.proofs.lemmas.List.Folds.{Any-from_list_any, list_any-from_Any}
use Rattle.hack_versions.specs.declared.group.VersionGroup.{VersionGroup}
use Rattle.hack_planner.proofs.uses.one_has.Goals as goal

pub returns : goal.returns
returns c =
    let here : ℕ → Bool = λ n. nat_eq n c.args.place in
    let in_group : VersionGroup → Bool = λ g. list_any here g.packages.items in
    let same = any_from_yields_List in_group _ _ _ c.any.ensures.ran (YieldsList-from_slice c.args.groups.now cc) (λ x b q k. search (rules, tests)) in (
      λ t.
          let g = Any-from_list_any in_group c.args.groups.now (sym same ∙ t) in
          let p = Any-from_list_any here g.1.packages.items g.4 in
          (g.1, (g.0, g.2, g.3), subst (Contains g.1.packages.items) (eqb-true p.1 c.args.place p.4) (p.0, p.2, p.3)),
      λ w. same ∙ list_any-from_Any in_group c.args.groups.now (w.1.0, w.0, w.1.1, w.1.2, list_any-from_Any here w.0.packages.items (w.2.0, c.args.place, w.2.1, w.2.2, eq-eqb c.args.place c.args.place refl)),
    )
