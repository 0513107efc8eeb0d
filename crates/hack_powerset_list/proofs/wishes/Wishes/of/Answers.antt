use Rattle.std.proofs.Common.{List, Option, ◌∙◌, ap, refl, subst, inr, MatchOption, option_map, Vec, Global}
use Rattle.std.specs.Borrow.{Bor}
use Rattle.hack_base.specs.Names.{Name, names_behind}
use Rattle.hack_features.specs.declared.feature.Feature.{Feature}
use Rattle.hack_features.specs.Feature.{groups_of as names_in_groups}
use Rattle.hack_powerset_list.specs.Words.{AreGroups, LacksSeparator}
use Rattle.hack_powerset_list.specs.InternalWishesView.{written_in}
use Rattle.hack_powerset_list.proofs.wishes.Wishes.of.Goals as goal

-- what groups were found, or why none were
abbrev Answered : List (Bor Name) → Option (Vec Feature Global) → Type 0
Answered lists found = MatchOption found (LacksSeparator (names_behind lists)) (λ groups. AreGroups (names_behind lists) (names_in_groups groups.items))

pub returns-in_default-3-clause-err : goal.returns-in_default-3-clause-err
returns-in_default-3-clause-err c =
    let values = c.in-Some.values in
    let groups = names_in_groups c.in-Some-2.mutually_exclusive.items in
    let exclusive : AreGroups (names_behind values.mutually_exclusive.items) groups =
    subst (Answered values.mutually_exclusive.items) c.in-Some-2.is (subst (λ lists. Answered lists c.in_ok-mutually_exclusive.field-0) c.as_slice.ensures.value c.in_ok-mutually_exclusive.ensures) in
    let lacking : LacksSeparator (names_behind values.at_least_one_of.items) =
    subst (Answered values.at_least_one_of.items) c.in_default-3.is (subst (λ lists. Answered lists c.in_ok-at_least_one_of.field-0) c.as_slice-2.ensures.value c.in_ok-at_least_one_of.ensures) in
    record {
      written = written_in values;
      said = c.in_ok-values.ensures ∙ ap (option_map written_in) c.in-Some.is;
      depth = c.in-Ok.depth;
      depth_of = c.in-Ok.ensures.ok;
      fault = inr (refl, exclusive.separated, lacking);
    }
