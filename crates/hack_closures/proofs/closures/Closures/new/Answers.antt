use Rattle.std.proofs.Common.{◌≡◌, [], List, Bool, ◌∙◌, subst, ◌↔◌, IsTrue}
use Rattle.hack_base.specs.Names.{Name}
use Rattle.hack_features.specs.View.{choice_of}
use Rattle.hack_closures.specs.Internal.{AreRows}
use Rattle.hack_closures.proofs.ChosenLemmas.{chosen, empty, with_all, all_asked, all_unasked}
use Rattle.hack_closures.proofs.OrderLemmas.{enabling}
use Rattle.hack_closures.proofs.closures.Closures.new.Goals as goal
use Rattle.hack_closures.proofs.closures.Closures.new.Goals.{then-with_all, else-with_all}

pub returns-clause-all : goal.returns-clause-all
returns-clause-all c =
    let groups : List (List Name) = (choice_of c.args.rules.now).exclusive in
    elim c.if-with_all.branch [
      | then-with_all w ↦ all_asked c.args.with_all c.if-with_all.all w.exclusion_groups.result groups w.exclusion_groups.ensures w.if-with_all.true w.all-is
      | else-with_all w ↦ all_unasked c.args.with_all c.if-with_all.all groups w.if-with_all.false (w.all-is ∙ w.if-with_all.false)
    ]

pub invariant_of-result : goal.invariant_of-result
invariant_of-result c =
    let k = choice_of c.args.rules.now in
    let all : Bool = c.if-with_all.all in
    let rows = subst (λ l. AreRows k l c.args.with_empty all c.in_ok-search.search) c.as_slice.ensures.value c.in_ok-search.ensures in
    let iff : IsTrue all ↔ (IsTrue c.args.with_all × (k.exclusive ≡ [])) = elim c.if-with_all.branch [
      | then-with_all w ↦ all_asked c.args.with_all c.if-with_all.all w.exclusion_groups.result k.exclusive w.exclusion_groups.ensures w.if-with_all.true w.all-is
      | else-with_all w ↦ all_unasked c.args.with_all c.if-with_all.all k.exclusive w.if-with_all.false (w.all-is ∙ w.if-with_all.false)
    ] in
    record { told = ∣ record { depth = c.requires; are_alone = c.in_ok-alone.ensures; bare = λ t. (iff.0 t).1; with_empty = c.args.with_empty; rows = rows } ∣₁ }

pub returns-clause-enabling : goal.returns-clause-enabling
returns-clause-enabling c =
    let k = choice_of c.args.rules.now in
    let rows = subst (λ l. AreRows k l c.args.with_empty c.if-with_all.all c.in_ok-search.search) c.as_slice.ensures.value c.in_ok-search.ensures in
    enabling k c.in_ok-alone.alone.items c.if-with_all.all c.in_ok-search.search rows.enabled

pub returns-clause-listed : goal.returns-clause-listed
returns-clause-listed c =
    let k = choice_of c.args.rules.now in
    let rows = subst (λ l. AreRows k l c.args.with_empty c.if-with_all.all c.in_ok-search.search) c.as_slice.ensures.value c.in_ok-search.ensures in
    chosen k c.in_ok-alone.alone.items c.args.with_empty c.if-with_all.all c.in_ok-search.search c.in_ok-alone.ensures rows

pub returns-clause-empty : goal.returns-clause-empty
returns-clause-empty c =
    let k = choice_of c.args.rules.now in
    let rows = subst (λ l. AreRows k l c.args.with_empty c.if-with_all.all c.in_ok-search.search) c.as_slice.ensures.value c.in_ok-search.ensures in
    empty k c.in_ok-alone.alone.items c.args.with_empty c.if-with_all.all c.in_ok-search.search c.in_ok-alone.ensures rows

pub returns-clause-with_all : goal.returns-clause-with_all
returns-clause-with_all c =
    let k = choice_of c.args.rules.now in
    let rows = subst (λ l. AreRows k l c.args.with_empty c.if-with_all.all c.in_ok-search.search) c.as_slice.ensures.value c.in_ok-search.ensures in
    with_all k c.in_ok-alone.alone.items c.args.with_empty c.if-with_all.all c.in_ok-search.search c.in_ok-alone.ensures rows
