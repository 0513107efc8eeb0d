use Rattle.std.proofs.Common.{rules, ◌≡◌, ◌++◌, ◌∷◌, [], ◌∙◌, ap, sym, subst, take, List, ℕ, map, string_bytes}
use Rattle.std.proofs.lemmas.List.{map-append, take_more}
use Rattle.hack_features.specs.declared.feature.Feature.{Feature}
use Rattle.hack_features.specs.Feature.{IsGroup}
use Rattle.hack_base.specs.Lists.{group_names}
use Rattle.hack_rules.specs.CliGroups.{AreGroupsOf}
use Rattle.hack_rules.proofs.GroupLemmas.{AllZip-more}
use Rattle.hack_rules.proofs.named.groups.Goals as goal

pub loop-text-preserved : goal.loop-text-preserved
loop-text-preserved c =
    let texts = c.deref-text-items.result.now in
    let i = c.loop-text.text-index in
    let text = c.text-item.result in
    let groups = c.loop-text.groups.items in
    let feature = c.in_ok-group.field-0 in
    let is : IsGroup (group_names (string_bytes text)) feature = search rules in
    let items : c.push.new.self.items ≡ groups ++ feature ∷ [] = search rules in
    let taken = ap (λ xs. map string_bytes xs) (take_more texts i text c.loop-text-test.true ∙ ap (λ x. take i texts ++ x ∷ []) (sym c.text-item.is)) ∙ map-append string_bytes (take i texts) (text ∷ []) in
    let more = AllZip-more (λ text group. IsGroup (group_names text) group) (map string_bytes (take i texts)) groups (string_bytes text) feature c.loop-text.invariant.0 is in
    (subst (λ (xs : List (List ℕ)). AreGroupsOf xs c.push.new.self.items) (sym taken) (subst (λ (fs : List Feature). AreGroupsOf (map string_bytes (take i texts) ++ string_bytes text ∷ []) fs) (sym items) more), c.loop-text.invariant.1)
