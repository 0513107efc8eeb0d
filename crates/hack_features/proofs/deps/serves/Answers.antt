use Rattle.std.proofs.Common.{rules, tests, ◌≡◌, ◌∙◌, ◌↔◌, ◌||◌, Bool, IsTrue, inl, inr, string_bytes, sym, subst}
use Rattle.std.specs.List.{list_any}
use Rattle.std.specs.Str.{bytes_eq}
use Rattle.std.proofs.lemmas.Bool.{or_cases, or_left, or_right}
use Rattle.std.proofs.lemmas.Iterator.{YieldsList-from_slice}
use Rattle.std.proofs.lemmas.Iterator.Search.{any_from_yields_List}
use Rattle.std.proofs.lemmas.Slice.Eq.{bytes_eq-Decides}
use Rattle.hack_base.specs.Names.{Name, names_of}
use Rattle.hack_base.proofs.Passes.{some_passes, any_passes}
use Rattle.hack_routes.specs.NameSets.{has_name}
use Rattle.hack_features.specs.InternalDeps.{IsServedBy}
use Rattle.hack_features.proofs.TableLemmas.{list_any-map}
use Rattle.hack_features.proofs.deps.serves.Goals as goal

pub returns : goal.returns
returns c =
    let key = c.args.key.now in
    let deps = c.args.deps.now in
    let texts = c.as_group-names.result.now in
    let test : Name → Bool = λ n. bytes_eq n key || has_name deps n in
    let same : c.any.result ≡ list_any test (names_of texts) =
    any_from_yields_List (λ text. test (string_bytes text)) _ _ c.any.result c.any.ensures.ran (YieldsList-from_slice texts cc) (λ x b q k. search (rules, tests)) ∙ sym (list_any-map test string_bytes texts) in
    subst (λ names. IsTrue c.any.result ↔ IsServedBy names key deps) c.as_group-names.ensures (
      λ t. let r = some_passes test (names_of texts) (sym same ∙ t) in record {
        name = r.0;
        member = r.1;
        has = elim (or_cases (bytes_eq r.0 key) (has_name deps r.0) r.2) [ inl e ↦ inl ((bytes_eq-Decides r.0 key).0 e) | inr h ↦ inr h ];
      },
      λ w. same ∙ any_passes test (names_of texts) w.name w.member
          (elim w.has [ inl e ↦ or_left (bytes_eq w.name key) (has_name deps w.name) ((bytes_eq-Decides w.name key).1 e) | inr h ↦ or_right (bytes_eq w.name key) (has_name deps w.name) h ]),
    )
