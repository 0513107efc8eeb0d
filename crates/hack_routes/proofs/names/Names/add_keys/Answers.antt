use Rattle.std.proofs.Common.{◌∷◌, ◌∙◌, ◌⊎◌, inl, inr, Contains, sym, ap, subst, string_bytes}
use Rattle.std.specs.Map.Iter.{deref}
use Rattle.std.proofs.lemmas.Map.Iter.{rest_more}
use Rattle.std.proofs.lemmas.List.Elements.{Contains-append_left}
use Rattle.hack_base.specs.Names.{Name, names_of}
use Rattle.hack_routes.specs.FeatureMap.{feature_map, IsKey}
use Rattle.hack_routes.specs.InternalNamesView.{table}
use Rattle.hack_base.proofs.Members.{Contains-cons_cases, Contains-nil}
use Rattle.hack_routes.proofs.PlaceLemmas.{is_key-entries}
use Rattle.hack_routes.proofs.names.Names.add_keys.Goals as goal

pub loop-key-init : goal.loop-key-init
loop-key-init c = record {
  step = c.requires;
  known = λ x k. inr (subst (λ keys. Contains (names_of keys) x) (sym (c.into_iter-key-iterator.ensures.into_iter_gives ∙ c.keys-key-items.ensures.rest)) ((is_key-entries x c.args.map.now.entries).0 k));
}

pub loop-key-preserved : goal.loop-key-preserved
loop-key-preserved c =
    let x = string_bytes c.in-Some.key.now in
    let rest = names_of c.next.new.self in
    let old = table c.loop-key.self in
    let adds = c.in_ok-place_of.ensures.adds in
    let before : (y : Name) → IsKey (feature_map c.args.map.now) y → Contains old y ⊎ Contains (x ∷ rest) y =
    subst (λ keys. (y : Name) → IsKey (feature_map c.args.map.now) y → Contains old y ⊎ Contains (names_of keys) y)
    (rest_more deref c.loop-key.key-iterator c.next.new.self c.next.result c.in-Some.key c.in-Some.is c.next.ensures.steps) c.loop-key.invariant.known in
    record {
      step = c.in_ok-place_of.ensures.in_step;
      known = λ y k. elim (before y k) [
        | inl w ↦ inl (subst (λ ns. Contains ns y) (sym adds.kept.1) (Contains-append_left old adds.kept.0 y w))
        | inr w ↦ elim (Contains-cons_cases x rest y w) [
          | inl e ↦ inl (adds.added y (c.as_str.ensures.value ∙ e))
          | inr v ↦ inr v
        ]
      ];
    }

pub returns-clause-known : goal.returns-clause-known
returns-clause-known c = λ x k. elim (c.loop-key.invariant.known x k) [
  | inl w ↦ w
  | inr w ↦ absurd (Contains-nil x (subst (λ l. Contains l x) (ap names_of c.in-None.ensures.steps.0) w))
]
