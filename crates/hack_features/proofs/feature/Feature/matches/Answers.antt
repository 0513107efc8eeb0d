use Rattle.std.proofs.Common.{rules, tests, ◌≡◌, ◌∙◌, ◌↔◌, IsTrue, Contains, string_bytes, sym, subst}
use Rattle.std.specs.Cmp.Lexicographic.{nat_list_eq_equiv}
use Rattle.std.specs.List.{list_any}
use Rattle.std.specs.Str.{bytes_eq}
use Rattle.std.proofs.lemmas.Iterator.{YieldsList-from_slice}
use Rattle.std.proofs.lemmas.Iterator.Search.{any_from_yields_List}
use Rattle.std.proofs.lemmas.Map.Views.{list_any-from_Contains, Contains-from_any}
use Rattle.hack_base.specs.Names.{names_of}
use Rattle.hack_base.proofs.NameLemmas.{same_text}
use Rattle.hack_features.proofs.TableLemmas.{list_any-map}
use Rattle.hack_features.proofs.feature.Feature.matches.Goals as goal

pub returns : goal.returns
returns c =
    let s = c.args.s.now in
    let texts = c.as_group.result.now in
    let same : c.any.result ≡ list_any (bytes_eq s) (names_of texts) =
    any_from_yields_List (λ text. bytes_eq s (string_bytes text)) _ _ c.any.result c.any.ensures.ran (YieldsList-from_slice texts cc) (λ x b q k. search (rules, tests)) ∙ sym (list_any-map (bytes_eq s) string_bytes texts) in
    subst (λ names. IsTrue c.any.result ↔ Contains names s) c.as_group.ensures
    (λ t. Contains-from_any same_text s (names_of texts) (sym same ∙ t), λ k. same ∙ list_any-from_Contains nat_list_eq_equiv s (names_of texts) k)
