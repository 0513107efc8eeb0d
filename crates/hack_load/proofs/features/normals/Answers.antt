use Rattle.std.specs.List.{AllZip}
use Rattle.std.proofs.Common.{ap, sym, ◌∙◌, string_bytes, subst, append-nil, List, ◌++◌}
use Rattle.std.specs.Map.{keys_of}
use Rattle.std.specs.Map.Iter.{deref}
use Rattle.std.proofs.lemmas.Map.Iter.{rest_more}
use Rattle.hack_base.specs.Names.{Name, names_of}
use Rattle.hack_features.specs.Feature.{IsNormal}
use Rattle.hack_features.specs.declared.feature.Feature.{Feature}
use Rattle.hack_load.specs.Features.{IsRising, texts_of}
use Rattle.hack_load.proofs.FeatureLemmas.{keys-shown, normals-push, rising-names, texts-pushed}
use Rattle.hack_load.proofs.features.normals.Goals as goal

pub loop-name-init : goal.loop-name-init
loop-name-init c = record {
  are = subst (λ (fs : List Feature). AllZip IsNormal (texts_of fs) fs) (sym c.new-found.ensures.items) tt;
  all = ap (λ fs. texts_of fs ++ names_of c.into_iter-name-iterator.result) c.new-found.ensures.items
      ∙ ap names_of (c.into_iter-name-iterator.ensures.into_iter_gives ∙ c.keys-name-items.ensures.rest) ∙ keys-shown c.args.features.now.entries;
}

pub loop-name-preserved : goal.loop-name-preserved
loop-name-preserved c =
    let is : IsNormal (string_bytes c.in-Some.name.now) c.in_ok-normal.field-0 = rw c.as_str.ensures.value at c.in_ok-normal.ensures in
    record {
      are = normals-push c.loop-name.found.items c.push.new.self.items c.in_ok-normal.field-0 (string_bytes c.in-Some.name.now) is c.in_ok-push.ensures.items c.loop-name.invariant.are;
      all = texts-pushed c.loop-name.found.items c.push.new.self.items c.in_ok-normal.field-0 (string_bytes c.in-Some.name.now) (names_of c.next.new.self) is c.in_ok-push.ensures.items
          ∙ ap (λ l. texts_of c.loop-name.found.items ++ names_of l) (sym (rest_more deref c.loop-name.name-iterator c.next.new.self c.next.result c.in-Some.name c.in-Some.is c.next.ensures.steps))
          ∙ c.loop-name.invariant.all;
    }

pub returns-clause-are : goal.returns-clause-are
returns-clause-are c =
    subst (λ (names : List Name). AllZip IsNormal names c.loop-name.found.items)
    (sym (append-nil (texts_of c.loop-name.found.items)) ∙ ap (λ l. texts_of c.loop-name.found.items ++ names_of l) (sym c.in-None.ensures.steps.0) ∙ c.loop-name.invariant.all)
    c.loop-name.invariant.are

pub returns-clause-rising : goal.returns-clause-rising
returns-clause-rising c =
    subst (λ (names : List Name). IsRising names)
    (keys-shown c.args.features.now.entries ∙ sym c.loop-name.invariant.all ∙ ap (λ l. texts_of c.loop-name.found.items ++ names_of l) c.in-None.ensures.steps.0 ∙ append-nil (texts_of c.loop-name.found.items))
    (rising-names (keys_of c.args.features.now.entries) c.keys-name-items.ensures.ordered)
