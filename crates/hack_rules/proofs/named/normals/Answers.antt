use Rattle.std.proofs.Common.{rules, ◌≡◌, ◌++◌, ◌∷◌, [], ◌∙◌, ap, sym, subst, take, List, string_bytes}
use Rattle.std.proofs.lemmas.List.{map-append, take_more}
use Rattle.hack_base.specs.Names.{Name, names_of}
use Rattle.hack_features.specs.declared.feature.Feature.{Feature}
use Rattle.hack_features.specs.Feature.{IsNormal}
use Rattle.std.specs.List.{AllZip}
use Rattle.hack_rules.proofs.GroupLemmas.{AllZip-more}
use Rattle.hack_rules.proofs.named.normals.Goals as goal

pub loop-name-preserved : goal.loop-name-preserved
loop-name-preserved c =
    let names = c.args.names.now in
    let i = c.loop-name.name-index in
    let name = c.name-item.result in
    let features = c.loop-name.features.items in
    let feature = c.in_ok-normal.field-0 in
    let is : IsNormal (string_bytes name) feature = search rules in
    let items : c.push.new.self.items ≡ features ++ feature ∷ [] = search rules in
    let taken = ap (λ xs. names_of xs) (take_more names i name c.loop-name-test.true ∙ ap (λ x. take i names ++ x ∷ []) (sym c.name-item.is)) ∙ map-append (λ t. string_bytes t) (take i names) (name ∷ []) in
    let more = AllZip-more IsNormal (names_of (take i names)) features (string_bytes name) feature c.loop-name.invariant is in
    subst (λ (xs : List Name). AllZip IsNormal xs c.push.new.self.items) (sym taken) (subst (λ (fs : List Feature). AllZip IsNormal (names_of (take i names) ++ string_bytes name ∷ []) fs) (sym items) more)
