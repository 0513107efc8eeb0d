-- Lemmas on the elements of an array with their commas, some of which are kept.
use Rattle.std.proofs.Common.{◌≡◌, ℕ, ◌+◌, ◌-◌, ◌<◌, List, [], ◌∷◌, ◌++◌, length, get_or, take, drop, map, refl, sym, ◌∙◌, ap, arith, inl, inr, append_assoc, append-nil, length-drop, drop-drop}
use Rattle.std.proofs.lemmas.List.{take-append-drop, take_all, take_more, get_or-drop, length-map}
use Rattle.std.specs.Prelude.{Option, Some, None, IfSome}
use Rattle.std.proofs.lemmas.Grind.{flat_map-append}
use Rattle.std.proofs.lemmas.List.Elements.{All-push}
use Rattle.toml.specs.View.{items_view, view}
use Rattle.toml.specs.declared.value.Value.{Value}
use Rattle.hack_manifest.specs.Manifest.{list_of_items}
use Rattle.hack_edits.specs.Arrays.{EndsBefore, IsLeftInside, IsThinned, IsWithComma, but_last, joined}
use Rattle.hack_edits.specs.InternalArrays.{IsCommaBehind, KeepsSome}
use Rattle.hack_edits.proofs.ItemLemmas.{list_of-items_of}

pub length-items : (vs : List Value) → length (list_of_items (items_view vs)) ≡ length vs
length-items vs = ap length (list_of-items_of (map view vs)) ∙ length-map vs view

-- one more, which is left out
pub thinned-out : {X : Type 0} (old new : List X) (x : X) → IsThinned old new → IsThinned (old ++ x ∷ []) new
thinned-out [] new x e = inl e
thinned-out (y ∷ old) new x h =
    elim h [ inl out ↦ inl (thinned-out old new x out) | inr w ↦ inr (w.0, w.1, thinned-out old w.0 x w.2) ]

-- one more, which is kept
pub thinned-kept : {X : Type 0} (old new : List X) (x : X) → IsThinned old new → IsThinned (old ++ x ∷ []) (new ++ x ∷ [])
thinned-kept [] new x e = inr ([], ap (λ l. l ++ x ∷ []) e, refl)
thinned-kept (y ∷ old) new x h =
    elim h [ inl out ↦ inl (thinned-kept old new x out) | inr w ↦ inr (w.0 ++ x ∷ [], ap (λ l. l ++ x ∷ []) w.1, thinned-kept old w.0 x w.2) ]

pub joined-push : (texts : List (List ℕ)) (text : List ℕ) → joined (texts ++ text ∷ []) ≡ joined texts ++ text
joined-push texts text = flat_map-append (λ t. t) texts (text ∷ []) ∙ ap (λ t. joined texts ++ t) (append-nil text)

-- one more element with its comma
module _ (inside : List ℕ) (from at : ℕ) (behind : IsCommaBehind inside from at) where
  text : List ℕ
  text = take (at + 1 - from) (drop from inside)

  one : IsWithComma text
  unfolding text
  one =
      let len : at - from < length (drop from inside) = omega (arith, behind.above, behind.within, length-drop from inside) in
      let comma : get_or (drop from inside) (at - from) 0 ≡ 44 = get_or-drop from inside (at - from) 0 ∙ ap (λ k. get_or inside k 0) (omega (arith, behind.above)) ∙ behind.comma in
      let whole : take (at + 1 - from) (drop from inside) ≡ take (at - from) (drop from inside) ++ 44 ∷ [] =
      ap (λ k. take k (drop from inside)) (omega (arith, behind.above)) ∙ take_more (drop from inside) (at - from) 0 len ∙ ap (λ c. take (at - from) (drop from inside) ++ c ∷ []) comma in
      (take (at - from) (drop from inside), behind.element, whole)

  split-on : (items : List (List ℕ)) → inside ≡ joined items ++ drop from inside → inside ≡ joined (items ++ text ∷ []) ++ drop (at + 1) inside
  unfolding text
  split-on items split =
      split ∙ ap (λ l. joined items ++ l) (sym (take-append-drop (at + 1 - from) (drop from inside)))
      ∙ sym (append_assoc (joined items) text (drop (at + 1 - from) (drop from inside)))
      ∙ ap (λ l. l ++ drop (at + 1 - from) (drop from inside)) (sym (joined-push items text))
      ∙ ap (λ l. joined (items ++ text ∷ []) ++ l) (drop-drop (at + 1 - from) from inside ∙ ap (λ k. drop k inside) (omega (arith, behind.above)))

  pub one-out : (bytes : List ℕ) → KeepsSome inside from bytes → KeepsSome inside (at + 1) bytes
  one-out bytes k = record {
    elements = k.elements ++ text ∷ [];
    kept = k.kept;
    split = split-on k.elements k.split;
    single = All-push IsWithComma k.elements text k.single one;
    some = thinned-out k.elements k.kept text k.some;
    is = k.is;
  }

  pub one-kept : (bytes more : List ℕ) → KeepsSome inside from bytes → more ≡ bytes ++ take (at + 1 - from) (drop from inside) → KeepsSome inside (at + 1) more
  unfolding text
  one-kept bytes more k is = record {
    elements = k.elements ++ text ∷ [];
    kept = k.kept ++ text ∷ [];
    split = split-on k.elements k.split;
    single = All-push IsWithComma k.elements text k.single one;
    some = thinned-kept k.elements k.kept text k.some;
    is = is ∙ ap (λ l. l ++ text) k.is ∙ sym (joined-push k.kept text);
  }

-- the last element goes
pub cut-last : (inside : List ℕ) (from : ℕ) (bytes new : List ℕ) → KeepsSome inside from bytes
    → (after : List ℕ) × EndsBefore (take (length inside - from) (drop from inside)) after × (new ≡ but_last bytes ++ after) → IsLeftInside inside new
cut-last inside from bytes new k h = record {
  elements = k.elements;
  kept = k.kept;
  rest = take (length inside - from) (drop from inside);
  split = k.split ∙ ap (λ l. joined k.elements ++ l) (sym (take_all (length inside - from) (drop from inside) (omega (arith, length-drop from inside))));
  single = k.single;
  some = k.some;
  end = inr (h.0, h.1, h.2 ∙ ap (λ l. but_last l ++ h.0) k.is);
}

pub some-weaker : {T : Type 0} (o : Option T) (P Q : T → Type 0) → ((x : T) → P x → Q x) → IfSome o P → IfSome o Q
some-weaker None P Q f h = h
some-weaker (Some x) P Q f h = f x h
