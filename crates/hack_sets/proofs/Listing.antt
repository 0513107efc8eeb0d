use Rattle.std.proofs.Common.{◌≡◌, ◌≢◌, ℕ, zero, suc, ◌+◌, ◌<◌, ◌≤◌, List, [], ◌∷◌, ◌++◌, length, get_or, refl, sym, ◌∙◌, ap, subst, arith, map, Option, None, Some, Bool, true, false, cond, ◌⊎◌, inl, inr, All, Contains, filter, nat_lt, slice_get, take, length-append, add-one}
use Rattle.std.specs.List.{cons_option}
use Rattle.std.proofs.lemmas.List.{map-append, get_or-map, length-map}
use Rattle.std.proofs.Math.ListN.{get_or-append}
use Rattle.std.proofs.Math.Seq.{get_or-append_seam}
use Rattle.std.proofs.lemmas.Bool.{lt-ltb, ltb-true}
use Rattle.std.proofs.lemmas.List.Elements.{All-append, All-push, All-weaker, All-contains, All-map, All-filter, All-nil, All-head, All-tail, Contains-append_left, Contains-append_right, Contains-append_cases, Contains-push, Contains-push_cases, Contains-get_or, filter_map-append, filter_more}
use Rattle.std.proofs.lemmas.Bool.Decides.{eqb_tells}
use Rattle.std.proofs.lemmas.List.Quantifiers.{all_pairs_push}
use Rattle.std.specs.Prelude.{Vec}
use Rattle.hack_base.proofs.Members.{last_of, Contains-head, Contains-nil, Contains-cons_cases, Contains-map, Contains-map_from, Contains-filter, Contains-filter_from}
use Rattle.hack_sets.specs.Sets.{IsSelection, IsBefore, Pairwise, IsListing, IsWithin, items_at}
use Rattle.hack_sets.specs.InternalSets.{has_room, with_each}
use Rattle.hack_samples.specs.Sets.{rows_of}

-- the sets of positions below n, by the greatest
abbrev pub sets_below : Option ℕ → ℕ → List (List ℕ)
sets_below depth zero = [] ∷ []
sets_below depth (suc n) = sets_below depth n ++ with_each depth n (sets_below depth n)

-- selections

pub selection_up : (n m : ℕ) (s : List ℕ) → n ≤ m → IsSelection n s → IsSelection m s
selection_up n m s le h = record { increasing = h.increasing; below = All-weaker (λ p. p < n) (λ p. p < m) (λ p lt. omega arith) s h.below }

pub selection_push : (n : ℕ) (t : List ℕ) → IsSelection n t → IsSelection (suc n) (t ++ n ∷ [])
selection_push n t h = record {
  increasing = all_pairs_push (λ p q. p < q) t n h.increasing (λ k d lt. h.below k d lt);
  below = All-push (λ p. p < suc n) t n (All-weaker (λ p. p < n) (λ p. p < suc n) (λ p lt. omega arith) t h.below) (omega arith);
}

-- of a selection with a last position the others are a selection below that
pub selection_pop : (m p : ℕ) (t : List ℕ) → IsSelection m (t ++ p ∷ []) → IsSelection p t × (p < m)
selection_pop m p t h = (
  record {
    increasing = λ i j d lt in'. rw (← get_or-append t (p ∷ []) d i (omega arith), ← get_or-append t (p ∷ []) d j in') (h.increasing i j d lt (omega (arith, length-append t (p ∷ []))));
    below = λ k d lt. subst (λ q. get_or t k d < q) (get_or-append_seam t p [] d) (rw (← get_or-append t (p ∷ []) d k lt) (h.increasing k (length t) d lt (omega (arith, length-append t (p ∷ [])))));
  },
  subst (λ q. q < m) (get_or-append_seam t p [] 0) (h.below (length t) 0 (omega (arith, length-append t (p ∷ [])))),
)

pub selection_none : (n : ℕ) → IsSelection n []
selection_none n = record { increasing = λ i j d lt in'. absurd (omega arith); below = All-nil (λ p. p < n) }

-- the order

pub before_new : (n : ℕ) (s t : List ℕ) → All (λ p. p < n) s → All (λ p. p < n) t → IsBefore s (t ++ n ∷ [])
before_new n s t hs ht = record {
  greatest = n;
  absent = λ c. let lt : n < n = All-contains (λ p. p < n) s n hs c in omega arith;
  present = Contains-push t n;
  above = λ p gt. (
    λ c. absurd (let lt : p < n = All-contains (λ p. p < n) s p hs c in omega arith),
    λ c. absurd (elim (Contains-push_cases t n p c) [ inl w ↦ (let lt : p < n = All-contains (λ p. p < n) t p ht w in omega arith) | inr e ↦ omega arith ]),
  );
}

push_iff : (n p : ℕ) (s t : List ℕ) → (Contains s p → Contains t p) → Contains (s ++ n ∷ []) p → Contains (t ++ n ∷ []) p
push_iff n p s t f c =
    elim (Contains-push_cases s n p c) [
      | inl w ↦ Contains-append_left t (n ∷ []) p (f w)
      | inr e ↦ subst (λ q. Contains (t ++ n ∷ []) q) e (Contains-push t n)
    ]

pub before_push : (n : ℕ) (s t : List ℕ) → All (λ p. p < n) t → IsBefore s t → IsBefore (s ++ n ∷ []) (t ++ n ∷ [])
before_push n s t ht h = record {
  greatest = h.greatest;
  absent = λ c. elim (Contains-push_cases s n h.greatest c) [ inl w ↦ h.absent w | inr e ↦ (let lt : h.greatest < n = All-contains (λ p. p < n) t h.greatest ht h.present in omega arith) ];
  present = Contains-append_left t (n ∷ []) h.greatest h.present;
  above = λ p gt. (push_iff n p s t (h.above p gt).0, push_iff n p t s (h.above p gt).1);
}

-- two lists in order, one after the other
pub in_order-append : (xs ys : List (List ℕ)) → Pairwise IsBefore xs → Pairwise IsBefore ys → All (λ x. All (IsBefore x) ys) xs → Pairwise IsBefore (xs ++ ys)
in_order-append [] ys hx hy h = hy
in_order-append (x ∷ xs) ys hx hy h = (
  All-append (IsBefore x) xs ys hx.0 (All-head (λ x. All (IsBefore x) ys) x xs h),
  in_order-append xs ys hx.1 hy (All-tail (λ x. All (IsBefore x) ys) x xs h),
)

in_order-filter-step : (p : List ℕ → Bool) (x : List ℕ) (xs : List (List ℕ)) (b : Bool) → All (IsBefore x) xs → Pairwise IsBefore (filter p xs) → Pairwise IsBefore (cond b (x ∷ filter p xs) (filter p xs))
in_order-filter-step p x xs true h k = (All-filter p (IsBefore x) xs h, k)
in_order-filter-step p x xs false h k = k

pub in_order-filter : (p : List ℕ → Bool) (xs : List (List ℕ)) → Pairwise IsBefore xs → Pairwise IsBefore (filter p xs)
in_order-filter p [] h = tt
in_order-filter p (x ∷ xs) h = in_order-filter-step p x xs (p x) h.0 (in_order-filter p xs h.1)

pub in_order-push : (n : ℕ) (xs : List (List ℕ)) → All (λ s. All (λ p. p < n) s) xs → Pairwise IsBefore xs → Pairwise IsBefore (map (λ s. s ++ n ∷ []) xs)
in_order-push n [] low h = tt
in_order-push n (x ∷ xs) low h = (
  All-map (IsBefore (x ++ n ∷ [])) (λ s. s ++ n ∷ []) xs
      (λ k d lt. before_push n x (get_or xs k d) (All-tail (λ s. All (λ p. p < n) s) x xs low k d lt) (h.0 k d lt)),
  in_order-push n xs (All-tail (λ s. All (λ p. p < n) s) x xs low) h.1,
)

-- the lists of sets_below

pub low : (depth : Option ℕ) (n : ℕ) (sets : List (List ℕ)) (s : List ℕ) → IsListing n (IsWithin depth) sets → Contains sets s → IsSelection n s
low depth n sets s h c = ((h.exact s).0 c).0

pub all_low : (depth : Option ℕ) (n : ℕ) (sets : List (List ℕ)) → IsListing n (IsWithin depth) sets → All (λ s. All (λ p. p < n) s) sets
all_low depth n sets h = λ k d lt. (low depth n sets _ h (Contains-get_or sets k d lt)).below

within_push : (depth : Option ℕ) (n : ℕ) (t : List ℕ) → has_room depth t ≡ true → IsWithin depth (t ++ n ∷ [])
within_push None n t e = tt
within_push (Some most) n t e = omega (arith, ltb-true (length t) most e, length-append t (n ∷ []))

room_from : (depth : Option ℕ) (n : ℕ) (t : List ℕ) → IsWithin depth (t ++ n ∷ []) → has_room depth t ≡ true
room_from None n t h = refl
room_from (Some most) n t h = lt-ltb (length t) most (omega (arith, length-append t (n ∷ [])))

within_front : (depth : Option ℕ) (n : ℕ) (t : List ℕ) → IsWithin depth (t ++ n ∷ []) → IsWithin depth t
within_front None n t h = tt
within_front (Some most) n t h = omega (arith, length-append t (n ∷ []))

within_none : (depth : Option ℕ) → IsWithin depth []
within_none None = tt
within_none (Some most) = omega arith

pub below_or_same : (p n : ℕ) → p < suc n → (p < n) ⊎ (p ≡ n)
below_or_same p n h = elim (eqb_tells p n) [ inl e ↦ inr e.1 | inr w ↦ inl (let ne : p ≢ n = w.1 in omega arith) ]

module _ (depth : Option ℕ) (n : ℕ) (sets : List (List ℕ)) (h : IsListing n (IsWithin depth) sets) where
  forward : (s : List ℕ) → Contains (sets ++ with_each depth n sets) s → IsSelection (suc n) s × IsWithin depth s
  forward s c =
      elim (Contains-append_cases sets (map (λ s. s ++ n ∷ []) (filter (has_room depth) sets)) s c) [
        | inl w ↦ (selection_up n (suc n) s (omega arith) ((h.exact s).0 w).0, ((h.exact s).0 w).1)
        | inr w ↦
            let from = Contains-map_from (λ s. s ++ n ∷ []) (filter (has_room depth) sets) s w in
            let kept = Contains-filter_from (has_room depth) sets from.0 from.1 in
            subst (λ t. IsSelection (suc n) t × IsWithin depth t) from.2
            (selection_push n from.0 (low depth n sets from.0 h kept.0), within_push depth n from.0 kept.1)
      ]

  backward_last : (p : ℕ) (t : List ℕ) → IsSelection (suc n) (t ++ p ∷ []) → IsWithin depth (t ++ p ∷ []) → (p < n) ⊎ (p ≡ n) → Contains (sets ++ with_each depth n sets) (t ++ p ∷ [])
  backward_last p t hs hw (inl lt) =
      Contains-append_left sets _ _ ((h.exact (t ++ p ∷ [])).1 (selection_up (suc p) n (t ++ p ∷ []) (omega arith) (selection_push p t (selection_pop (suc n) p t hs).0), hw))
  backward_last p t hs hw (inr e) =
      Contains-append_right sets _ _ (subst (λ q. Contains (map (λ s. s ++ n ∷ []) (filter (has_room depth) sets)) (t ++ q ∷ [])) (sym e)
      (Contains-map (λ s. s ++ n ∷ []) (filter (has_room depth) sets) t
      (Contains-filter (has_room depth) sets t ((h.exact t).1 (subst (λ q. IsSelection q t) e (selection_pop (suc n) p t hs).0, within_front depth p t hw)) (room_from depth p t hw))))

  backward : (s : List ℕ) → IsSelection (suc n) s × IsWithin depth s → Contains (sets ++ with_each depth n sets) s
  backward s k =
      elim (last_of s) [
        | inl e ↦ Contains-append_left sets _ s ((h.exact s).1 (subst (λ t. IsSelection n t) (sym e) (selection_none n), k.1))
        | inr w ↦ subst (λ t. Contains (sets ++ with_each depth n sets) t) (sym w.2)
            (let hs : IsSelection (suc n) (w.0 ++ w.1 ∷ []) = subst (λ t. IsSelection (suc n) t) w.2 k.0 in
            let hw : IsWithin depth (w.0 ++ w.1 ∷ []) = subst (λ t. IsWithin depth t) w.2 k.1 in
            backward_last w.1 w.0 hs hw (below_or_same w.1 n (selection_pop (suc n) w.1 w.0 hs).1))
      ]

  listing_step : IsListing (suc n) (IsWithin depth) (sets ++ with_each depth n sets)
  listing_step = record {
    ordered = in_order-append sets (map (λ s. s ++ n ∷ []) (filter (has_room depth) sets)) h.ordered
        (in_order-push n (filter (has_room depth) sets) (All-filter (has_room depth) (λ s. All (λ p. p < n) s) sets (all_low depth n sets h)) (in_order-filter (has_room depth) sets h.ordered))
        (λ k d lt. All-map (IsBefore (get_or sets k d)) (λ s. s ++ n ∷ []) (filter (has_room depth) sets)
        (λ j e in'. before_new n (get_or sets k d) (get_or (filter (has_room depth) sets) j e) (all_low depth n sets h k d lt) (All-filter (has_room depth) (λ s. All (λ p. p < n) s) sets (all_low depth n sets h) j e in')));
    exact = λ s. (forward s, backward s);
  }

-- the sets of positions below n that keep the depth
pub listing : (depth : Option ℕ) (n : ℕ) → IsListing n (IsWithin depth) (sets_below depth n)
listing depth zero = record {
  ordered = (All-nil (IsBefore []), tt);
  exact = λ s. (
    λ c. elim (Contains-cons_cases [] [] s c) [ inl e ↦ subst (λ t. IsSelection 0 t × IsWithin depth t) e (selection_none 0, within_none depth) | inr w ↦ absurd (Contains-nil s w) ],
    λ h. elim (last_of s) [ inl e ↦ subst (λ t. Contains ([] ∷ []) t) (sym e) (Contains-head [] []) | inr w ↦ absurd (let q : w.1 < 0 = (selection_pop 0 w.1 w.0 (subst (λ t. IsSelection 0 t) w.2 h.0)).1 in omega arith) ],
  );
}
listing depth (suc n) = listing_step depth n (sets_below depth n) (listing depth n)

-- the items of the selections grow as the selections do

pub slice_get-at : {X : Type 0} (items : List X) (p : ℕ) (d : X) → p < length items → slice_get items p ≡ Some (get_or items p d)
slice_get-at [] p d h = absurd (omega arith)
slice_get-at (x ∷ items) zero d h = refl
slice_get-at (x ∷ items) (suc p) d h = slice_get-at items p d (omega arith)

slice_get-some : {X : Type 0} (items : List X) (p : ℕ) → p < length items → (x : X) × (slice_get items p ≡ Some x)
slice_get-some [] p h = absurd (omega arith)
slice_get-some (x ∷ items) p h = (get_or (x ∷ items) p x, slice_get-at (x ∷ items) p x h)

pub length-chosen : {X : Type 0} (items : List X) (s : List ℕ) → All (λ p. p < length items) s → length (items_at items s) ≡ length s
length-chosen items [] h = refl
length-chosen items (p ∷ s) h =
    ap (λ o. length (cons_option o (items_at items s))) (slice_get-some items p (All-head (λ p. p < length items) p s h)).1
    ∙ ap suc (length-chosen items s (All-tail (λ p. p < length items) p s h))

pub chosen-push : {X : Type 0} (items : List X) (s : List ℕ) (n : ℕ) (d : X) → n < length items → items_at items (s ++ n ∷ []) ≡ items_at items s ++ get_or items n d ∷ []
chosen-push items s n d h = filter_map-append (slice_get items) s (n ∷ []) ∙ ap (λ o. items_at items s ++ cons_option o []) (slice_get-at items n d h)

-- the step of `longer`
with_each-one : {X : Type 0} (x : X) (l : List X) (b : Bool) → map (λ list. list ++ x ∷ []) (cond b (l ∷ []) []) ≡ cond b ((l ++ x ∷ []) ∷ []) []
with_each-one x l true = refl
with_each-one x l false = refl

pub with_each-more : {X : Type 0} (depth : Option ℕ) (x : X) (lists : List (List X)) (k : ℕ) (d : List X) → k < length lists → with_each depth x (take (k + 1) lists) ≡ with_each depth x (take k lists) ++ cond (has_room depth (get_or lists k d)) ((get_or lists k d ++ x ∷ []) ∷ []) []
with_each-more depth x lists k d h =
    ap (map (λ list. list ++ x ∷ [])) (filter_more (has_room depth) lists k d h)
    ∙ map-append (λ list. list ++ x ∷ []) (filter (has_room depth) (take k lists)) (cond (has_room depth (get_or lists k d)) (get_or lists k d ∷ []) [])
    ∙ ap (λ more. with_each depth x (take k lists) ++ more) (with_each-one x (get_or lists k d) (has_room depth (get_or lists k d)))

-- the step of `powerset`
has_room-chosen : {X : Type 0} (items : List X) (depth : Option ℕ) (s : List ℕ) → All (λ p. p < length items) s → has_room depth (items_at items s) ≡ has_room depth s
has_room-chosen items None s h = refl
has_room-chosen items (Some most) s h = ap (λ n. nat_lt n most) (length-chosen items s h)

kept_pair : {X : Type 0} (f : List ℕ → List X) (x : X) (n : ℕ) (s : List ℕ) (b : Bool) (F : List (List X)) (G : List (List ℕ)) → f (s ++ n ∷ []) ≡ f s ++ x ∷ []
    → map (λ list. list ++ x ∷ []) F ≡ map f (map (λ list. list ++ n ∷ []) G)
    → map (λ list. list ++ x ∷ []) (cond b (f s ∷ F) F) ≡ map f (map (λ list. list ++ n ∷ []) (cond b (s ∷ G) G))
kept_pair f x n s true F G e h = cc
kept_pair f x n s false F G e h = h

pub with_each-chosen : {X : Type 0} (items : List X) (depth : Option ℕ) (n : ℕ) (d : X) → n < length items → (sets : List (List ℕ)) → All (λ s. All (λ p. p < n) s) sets → with_each depth (get_or items n d) (map (items_at items) sets) ≡ map (items_at items) (with_each depth n sets)
with_each-chosen items depth n d h [] low = refl
with_each-chosen items depth n d h (s ∷ sets) low =
    ap (λ b. map (λ list. list ++ get_or items n d ∷ []) (cond b (items_at items s ∷ filter (has_room depth) (map (items_at items) sets)) (filter (has_room depth) (map (items_at items) sets))))
    (has_room-chosen items depth s (All-weaker (λ p. p < n) (λ p. p < length items) (λ p lt. omega arith) s (All-head (λ s. All (λ p. p < n) s) s sets low)))
    ∙ kept_pair (items_at items) (get_or items n d) n s (has_room depth s) (filter (has_room depth) (map (items_at items) sets)) (filter (has_room depth) sets)
    (chosen-push items s n d h) (with_each-chosen items depth n d h sets (All-tail (λ s. All (λ p. p < n) s) s sets low))

-- one turn of `powerset`: the lists so far and each with the next item
pub next_lists : {X : Type 0} (items : List X) (depth : Option ℕ) (n : ℕ) (x : X) (lists : List (List X)) → n < length items → x ≡ get_or items n x → lists ≡ map (items_at items) (sets_below depth n) → lists ++ with_each depth x lists ≡ map (items_at items) (sets_below depth (n + 1))
next_lists items depth n x lists h e same =
    ap (λ ls. ls ++ with_each depth x ls) same
    ∙ ap (λ y. map (items_at items) (sets_below depth n) ++ with_each depth y (map (items_at items) (sets_below depth n))) e
    ∙ ap (λ more. map (items_at items) (sets_below depth n) ++ more) (with_each-chosen items depth n x h (sets_below depth n) (all_low depth n (sets_below depth n) (listing depth n)))
    ∙ sym (map-append (items_at items) (sets_below depth n) (with_each depth n (sets_below depth n)))
    ∙ ap (λ m. map (items_at items) (sets_below depth m)) (sym (add-one n))

pub rows-more : {X Z : Type 0} (depth : Option ℕ) (x : X) (lists : List (Vec X Z)) (k : ℕ) (list : Vec X Z) → k < length lists → list ≡ get_or lists k list
    → with_each depth x (take (k + 1) (rows_of lists)) ≡ with_each depth x (take k (rows_of lists)) ++ cond (has_room depth list.items) ((list.items ++ x ∷ []) ∷ []) []
rows-more {X} {Z} depth x lists k list h e =
    with_each-more depth x (rows_of lists) k list.items (rw (length-map lists (λ (l : Vec X Z). l.items)) h)
    ∙ ap (λ l. with_each depth x (take k (rows_of lists)) ++ cond (has_room depth l) ((l ++ x ∷ []) ∷ []) [])
    (get_or-map (λ (l : Vec X Z). l.items) lists k list list.items h ∙ ap (λ (l : Vec X Z). l.items) (sym e))
