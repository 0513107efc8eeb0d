-- All that a walk lists from the empty set on are the permitted sets.
use Rattle.std.proofs.Common.{◌≡◌, ℕ, zero, suc, List, [], ◌∷◌, ◌++◌, length, refl, sym, ◌∙◌, ap, subst, arith, map, filter, Bool, true, false, cond, length-append, append-nil, append_assoc}
use Rattle.std.proofs.Math.Path.{fun_ext}
use Rattle.std.proofs.lemmas.List.{map-append, map-id}
use Rattle.std.proofs.lemmas.List.Elements.{filter-append, filter_agree}
use Rattle.std.specs.List.{remove}
use Rattle.std.specs.Prelude.{if◌then◌else◌}
use Rattle.hack_sets.specs.Sets.{IsListing}
use Rattle.hack_sets.specs.InternalQuestions.{with_next}
use Rattle.hack_sets.specs.Walk.{below}
use Rattle.hack_sets.specs.InternalWalk.{IsClosed}
use Rattle.hack_sets.proofs.Permitted.{Passes, permitted_below, permitted_listing}

filter-map : (f : List ℕ → List ℕ) (test : List ℕ → Bool) (xs : List (List ℕ)) → filter test (map f xs) ≡ map f (filter (λ x. test (f x)) xs)
filter-map f test [] = refl
filter-map f test (x ∷ xs) =
    ap (λ l. cond (test (f x)) (f x ∷ l) l) (filter-map f test xs) ∙ go (test (f x))
  where
    go : (b : Bool) → cond b (f x ∷ map f (filter (λ y. test (f y)) xs)) (map f (filter (λ y. test (f y)) xs)) ≡ map f (cond b (x ∷ filter (λ y. test (f y)) xs) (filter (λ y. test (f y)) xs))
    go true = refl
    go false = refl

-- a stronger test after a weaker one
filter-both-step : (test weak : List ℕ → Bool) (x : List ℕ) (xs : List (List ℕ)) (b t : Bool) → weak x ≡ b → test x ≡ t → (test x ≡ true → weak x ≡ true)
    → filter test (filter weak xs) ≡ filter test xs → filter test (cond b (x ∷ filter weak xs) (filter weak xs)) ≡ cond t (x ∷ filter test xs) (filter test xs)
filter-both-step test weak x xs true t e f h same = ap (λ b. cond b (x ∷ filter test (filter weak xs)) (filter test (filter weak xs))) f ∙ ap (λ l. cond t (x ∷ l) l) same
filter-both-step test weak x xs false true e f h same = absurd (let a : weak x ≡ true = h f in let c : true ≡ false = sym a ∙ e in cc)
filter-both-step test weak x xs false false e f h same = same

filter-both : (test weak : List ℕ → Bool) → ((x : List ℕ) → test x ≡ true → weak x ≡ true) → (xs : List (List ℕ)) → filter test (filter weak xs) ≡ filter test xs
filter-both test weak h [] = refl
filter-both test weak h (x ∷ xs) = filter-both-step test weak x xs (weak x) (test x) refl refl (h x) (filter-both test weak h xs)

filter-refused : (test : List ℕ → Bool) → ((x : List ℕ) → test x ≡ false) → (xs : List (List ℕ)) → filter test xs ≡ []
filter-refused test h [] = refl
filter-refused test h (x ∷ xs) = ap (λ b. cond b (x ∷ filter test xs) (filter test xs)) (h x) ∙ filter-refused test h xs

-- those that pass a test, of the sets that a weaker one permits, are all that the test permits
module _ (test weak : List ℕ → Bool) (stronger : (x : List ℕ) → test x ≡ true → weak x ≡ true) (front : (t : List ℕ) (p : ℕ) → test (t ++ p ∷ []) ≡ true → test t ≡ true) (at_all : test [] ≡ true) where
  permitted-filter : (p : ℕ) → filter test (permitted_below weak p) ≡ permitted_below test p
  permitted-filter zero = ap (λ b. cond b ([] ∷ []) []) at_all
  permitted-filter (suc p) =
      let add : List ℕ → List ℕ = λ u. u ++ p ∷ [] in
      let sets : List (List ℕ) = permitted_below weak p in
      filter-append test sets (with_next weak p sets)
      ∙ ap (λ l. l ++ filter test (with_next weak p sets)) (permitted-filter p)
      ∙ ap (λ l. permitted_below test p ++ l)
      (filter-map add test (filter (λ u. weak (add u)) sets)
      ∙ ap (map add) (filter-both (λ u. test (add u)) (λ u. weak (add u)) (λ u e. stronger (add u) e) sets
      ∙ sym (filter-both (λ u. test (add u)) test (λ u e. front u p e) sets)
      ∙ ap (filter (λ u. test (add u))) (permitted-filter p)))

map-behind : (s : List ℕ) (p : ℕ) (xs : List (List ℕ)) → map (λ u. u ++ s) (map (λ u. u ++ p ∷ []) xs) ≡ map (λ u. u ++ p ∷ s) xs
map-behind s p [] = refl
map-behind s p (x ∷ xs) = ap (λ l. l ∷ map (λ u. u ++ s) (map (λ u. u ++ p ∷ []) xs)) (append_assoc x (p ∷ []) s) ∙ ap (λ l. (x ++ p ∷ s) ∷ l) (map-behind s p xs)

module _ (may : List ℕ → Bool) (closed : IsClosed may) where
  -- the sets that are permitted when s follows them
  abbrev with : List ℕ → List ℕ → Bool
  with s u = may (u ++ s)

  with-front : (s t : List ℕ) (p : ℕ) → may ((t ++ p ∷ []) ++ s) ≡ true → may (t ++ s) ≡ true
  with-front s t p e =
      subst (λ l. may l ≡ true) (remove-inside t p s)
      (closed ((t ++ p ∷ []) ++ s) (length t) (omega (arith, length-append (t ++ p ∷ []) s, length-append t (p ∷ []))) e)
    where
      remove-inside : (t : List ℕ) (p : ℕ) (s : List ℕ) → remove ((t ++ p ∷ []) ++ s) (length t) ≡ t ++ s
      remove-inside [] p s = refl
      remove-inside (x ∷ t) p s = ap (λ l. x ∷ l) (remove-inside t p s)

  -- one position in front of s makes a stronger test
  with-less : (s : List ℕ) (p : ℕ) (u : List ℕ) → may (u ++ p ∷ s) ≡ true → may (u ++ s) ≡ true
  with-less s p u e = with-front s u p (subst (λ l. may l ≡ true) (sym (append_assoc u (p ∷ []) s)) e)

  with-none : (s : List ℕ) (u : List ℕ) (b : Bool) → may (u ++ s) ≡ b → may s ≡ false → b ≡ false
  with-none s [] b e f = sym e ∙ f
  with-none s (p ∷ u) false e f = refl
  with-none s (p ∷ u) true e f = with-none s u true (closed (p ∷ (u ++ s)) 0 (omega arith) e) f

  listed-next : (p : ℕ) (s : List ℕ) (b : Bool) → may (p ∷ s) ≡ b → may s ≡ true → (may (p ∷ s) ≡ true → (p ∷ s) ∷ below may p (p ∷ s) ≡ map (λ u. u ++ p ∷ s) (permitted_below (with (p ∷ s)) p))
      → cond b ((p ∷ s) ∷ below may p (p ∷ s)) [] ≡ map (λ u. u ++ p ∷ s) (filter (with (p ∷ s)) (permitted_below (with s) p))
  listed-next p s true e h ih =
      ih e ∙ ap (map (λ u. u ++ p ∷ s)) (sym (permitted-filter (with (p ∷ s)) (with s) (with-less s p) (with-front (p ∷ s)) e p))
  listed-next p s false e h ih =
      ap (map (λ u. u ++ p ∷ s)) (sym (filter-refused (with (p ∷ s)) (λ u. with-none (p ∷ s) u (may (u ++ p ∷ s)) refl e) (permitted_below (with s) p)))

  listed : (p : ℕ) (s : List ℕ) → may s ≡ true → s ∷ below may p s ≡ map (λ u. u ++ s) (permitted_below (with s) p)
  listed zero s h = refl
  listed (suc p) s h =
      let sets : List (List ℕ) = permitted_below (with s) p in
      ap (λ l. l ++ (if may (p ∷ s) then (p ∷ s) ∷ below may p (p ∷ s) else [])) (listed p s h)
      ∙ ap (λ l. map (λ u. u ++ s) sets ++ l)
      (listed-next p s (may (p ∷ s)) refl h (λ e. listed p (p ∷ s) e)
      ∙ ap (map (λ u. u ++ p ∷ s)) (filter_agree (with (p ∷ s)) (λ u. with s (u ++ p ∷ [])) (λ u. ap may (sym (append_assoc u (p ∷ []) s))) sets)
      ∙ sym (map-behind s p (filter (λ u. with s (u ++ p ∷ [])) sets)))
      ∙ sym (map-append (λ u. u ++ s) sets (with_next (with s) p sets))

  listed-all : (n : ℕ) → may [] ≡ true → [] ∷ below may n [] ≡ permitted_below may n
  listed-all n h =
      listed n [] h
      ∙ ap (λ (f : List ℕ → List ℕ). map f (permitted_below (with []) n)) (fun_ext append-nil)
      ∙ map-id (permitted_below (with []) n)
      ∙ ap (λ test. permitted_below test n) (fun_ext (λ u. ap may (append-nil u)))

  -- the sets from the empty one on, each once and in order
  pub walk_listing : may [] ≡ true → (n : ℕ) → IsListing n (Passes may) ([] ∷ below may n [])
  walk_listing h n = subst (IsListing n (Passes may)) (sym (listed-all n h)) (permitted_listing may h closed n)
