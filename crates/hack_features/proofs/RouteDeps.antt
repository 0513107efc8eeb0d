-- The table of what each key enables, made place by place.
use Rattle.std.proofs.Common.{◌≡◌, ◌≢◌, ◌↔◌, ℕ, ◌+◌, ◌<◌, List, [], arith, length, get_or, refl, sym, ◌∙◌, ap, subst, Option, Some, IsSome, IfSome, Bool, true, false, cond, IsTrue, inl, inr, Contains}
use Rattle.std.specs.Prelude.{◌==◌, ◌&&◌, not}
use Rattle.std.specs.Option.{is_some}
use Rattle.std.specs.Map.{update}
use Rattle.std.specs.BTreeMap.{BTreeMap}
use Rattle.std.specs.Borrow.{Bor}
use Rattle.std.specs.Str.{bytes_eq}
use Rattle.std.specs.Cmp.Lexicographic.{slice_cmp}
use Rattle.std.specs.Ordering.{nat_cmp, is_eq}
use Rattle.std.proofs.lemmas.Bool.{or_right, and_parts, and_from}
use Rattle.std.proofs.lemmas.List.{get_or_default, get_or-map}
use Rattle.hack_base.proofs.Members.{lt_or_same}
use Rattle.hack_base.proofs.NameLemmas.{same_text, differ}
use Rattle.hack_routes.proofs.NameSetLemmas.{has-more}
use Rattle.hack_features.proofs.TableLemmas.{differ_at, marked_or, not_same}
use Rattle.hack_base.specs.Names.{Name, names_behind}
use Rattle.hack_routes.specs.FeatureMap.{FeatureMap, IsKey, Enables}
use Rattle.hack_features.specs.Deps.{IsDepsOf, AreDepsOf}
use Rattle.hack_routes.specs.NameSets.{NameSet, has_name, get_at}
use Rattle.hack_routes.specs.Rows.{cell}
use Rattle.hack_routes.specs.Places.{name_at, AreRoutes}
use Rattle.hack_routes.specs.declared.reach.Edges.TheVariants.{Enabling}

-- the name that a loop over the names holds is the one at its place
pub here_at : (refs items : List (Bor Name)) (k : ℕ) → items ≡ refs → k < length items → name_at (names_behind refs) k ≡ (get_or items k (record { ref_ptr = (0, 0); now = [] })).now
here_at refs items k e lt = ap (λ is. name_at (names_behind is) k) (sym e) ∙ get_or-map (λ (b : Bor Name). b.now) items k (record { ref_ptr = (0, 0); now = [] }) [] lt

-- ---- what a name enables, without it

-- a set of the names at those of the first places that pass the test
abbrev pub Tells : NameSet → List Name → (ℕ → Bool) → ℕ → Type 0
Tells s names test n = (y : Name) → IsTrue (has_name s y) ↔ ((k : ℕ) × (k < n) × (name_at names k ≡ y) × IsTrue (test k))

-- one place more, which passes
pub tells-more : (names : List Name) (test : ℕ → Bool) (n : ℕ) (old new : NameSet) → Tells old names test n → ((y : Name) → has_name new y ≡ cond (is_eq (slice_cmp nat_cmp (name_at names n) y)) true (has_name old y)) → test n ≡ true → Tells new names test (n + 1)
tells-more names test n old new h e t = λ y.
    let m = has-more (name_at names n) y old new (e y) in (
      λ k. elim (m.0 k) [
        | inl w ↦ let r = (h y).0 w in (r.0, omega (arith, r.1), r.2, r.3)
        | inr s ↦ (n, omega arith, s, t)
      ],
      λ w. elim (lt_or_same w.0 n w.1) [
        | inl lt ↦ m.1 (inl ((h y).1 (w.0, lt, w.2, w.3)))
        | inr same ↦ m.1 (inr (subst (λ k. name_at names k ≡ y) same w.2))
      ],
    )

-- one that doesn't
pub tells-skip : (names : List Name) (test : ℕ → Bool) (n : ℕ) (s : NameSet) → Tells s names test n → test n ≡ false → Tells s names test (n + 1)
tells-skip names test n s h t = λ y. (
  λ k. let r = (h y).0 k in (r.0, omega (arith, r.1), r.2, r.3),
  λ w. elim (lt_or_same w.0 n w.1) [
    | inl lt ↦ (h y).1 (w.0, lt, w.2, w.3)
    | inr same ↦ absurd (let z : false ≡ true = sym t ∙ subst (λ k. IsTrue (test k)) same w.3 in cc)
  ],
)

module _ (m : FeatureMap) (names : List Name) (keys : List Bool) (marks : List (List Bool)) (h : AreRoutes Enabling m names keys marks) where
  -- after all places, the set has exactly what the name enables
  pub tells-end : (from n : ℕ) → from < length names → n ≡ length names → (s : NameSet) → Tells s names (λ to. not (from == to) && cell marks from to) n → IsDepsOf m (name_at names from) s
  tells-end from n lt all s told = λ y. (
    λ k.
        let w = (told y).0 k in
        let p = and_parts (not (from == w.0)) (cell marks from w.0) w.3 in
        let low : w.0 < length names = omega (arith, w.1) in (
          subst (λ z. z ≢ name_at names from) w.2 (differ_at Enabling m names keys marks h from w.0 lt low p.0),
          subst (Enables m (name_at names from)) w.2 ((h.led from w.0 lt low).0 (or_right (from == w.0) (cell marks from w.0) p.1)),
        ),
    λ k.
        let c = h.closed from y lt k.1 in
        let is : name_at names c.0 ≡ y = get_or_default names c.0 [] y c.1 ∙ c.2 in
        let n' = not_same Enabling m names keys marks h from c.0 (subst (λ z. z ≢ name_at names from) (sym is) k.0) in
        let led = (h.led from c.0 lt c.1).1 (subst (Enables m (name_at names from)) (sym is) k.1) in
        (told y).1 (c.0, omega (arith, c.1), is, and_from (not (from == c.0)) (cell marks from c.0) n' (marked_or Enabling m names keys marks h from c.0 n' led)),
  )

-- ---- the table of deps

-- the table after the first n places
pub record Tabling (m : FeatureMap) (names : List Name) (deps : BTreeMap (Bor Name) NameSet) (n : ℕ) : Type 0 where
  pub keys : (x : Name) → IsSome (get_at deps x) → IsKey m x
  pub told : (k : ℕ) → k < n → IsKey m (name_at names k) → IsSome (get_at deps (name_at names k))
  pub each : (x : Name) → IfSome (get_at deps x) (IsDepsOf m x)

keys-next : (m : FeatureMap) (x y : Name) (s : NameSet) (old new : Option NameSet) (b : Bool) → bytes_eq x y ≡ b → new ≡ cond b (Some s) old → IsKey m x → (IsSome old → IsKey m y) → IsSome new → IsKey m y
keys-next m x y s old new true t e k h o = subst (IsKey m) (same_text x y t) k
keys-next m x y s old new false t e k h o = h (sym (ap is_some e) ∙ o)

some-next : (s : NameSet) (old new : Option NameSet) (b : Bool) → new ≡ cond b (Some s) old → (b ≡ false → IsSome old) → IsSome new
some-next s old new true e h = ap is_some e
some-next s old new false e h = ap is_some e ∙ h refl

each-next : (m : FeatureMap) (x y : Name) (s : NameSet) (old new : Option NameSet) (b : Bool) → bytes_eq x y ≡ b → new ≡ cond b (Some s) old → IsDepsOf m x s → IfSome old (IsDepsOf m y) → IfSome new (IsDepsOf m y)
each-next m x y s old new true t e d h = subst (λ o. IfSome o (IsDepsOf m y)) (sym e) (subst (λ n. IsDepsOf m n s) (same_text x y t) d)
each-next m x y s old new false t e d h = subst (λ o. IfSome o (IsDepsOf m y)) (sym e) h

-- the set of the next name, a key, goes into the table
pub tabling-next : (m : FeatureMap) (names : List Name) (n : ℕ) (s : NameSet) (old new : BTreeMap (Bor Name) NameSet) → Tabling m names old n → IsKey m (name_at names n)
    → ((y : Name) → get_at new y ≡ update bytes_eq (get_at old) (name_at names n) (Some s) y) → IsDepsOf m (name_at names n) s → Tabling m names new (n + 1)
tabling-next m names n s old new h k e d = let x = name_at names n in record {
  keys = λ y. keys-next m x y s (get_at old y) (get_at new y) (bytes_eq x y) refl (e y) k (h.keys y);
  told = λ j lt kj.
      let y = name_at names j in
      some-next s (get_at old y) (get_at new y) (bytes_eq x y) (e y) (λ apart. elim (lt_or_same j n lt) [
        | inl w ↦ h.told j w kj
        | inr w ↦ absurd (differ x y apart (ap (name_at names) (sym w)))
      ]);
  each = λ y. each-next m x y s (get_at old y) (get_at new y) (bytes_eq x y) refl (e y) d (h.each y);
}

-- a name that is no key
pub tabling-skip : (m : FeatureMap) (names : List Name) (n : ℕ) (deps : BTreeMap (Bor Name) NameSet) → Tabling m names deps n → ¬ IsKey m (name_at names n) → Tabling m names deps (n + 1)
tabling-skip m names n deps h k = record {
  keys = h.keys;
  told = λ j lt kj. elim (lt_or_same j n lt) [ inl w ↦ h.told j w kj | inr w ↦ absurd (k (subst (λ i. IsKey m (name_at names i)) w kj)) ];
  each = h.each;
}

pub tabling-end : (m : FeatureMap) (names : List Name) (n : ℕ) (deps : BTreeMap (Bor Name) NameSet) → ((x : Name) → IsKey m x → Contains names x) → n ≡ length names → Tabling m names deps n → AreDepsOf m deps
tabling-end m names n deps known all h = record {
  keys = λ x. (
    h.keys x,
    λ k.
        let c = known x k in
        let is : name_at names c.0 ≡ x = get_or_default names c.0 [] x c.1 ∙ c.2 in
        subst (λ y. IsSome (get_at deps y)) is (h.told c.0 (omega (arith, c.1)) (subst (IsKey m) (sym is) k)),
  );
  each = h.each;
}
