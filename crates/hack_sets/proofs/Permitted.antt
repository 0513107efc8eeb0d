use Rattle.std.proofs.Common.{◌≡◌, ℕ, zero, suc, ◌+◌, ◌<◌, List, [], ◌∷◌, ◌++◌, length, get_or, refl, sym, ◌∙◌, ap, subst, arith, map, Bool, true, false, cond, ◌⊎◌, inl, inr, ◌↔◌, All, Contains, filter, take, drop, length-append, append-nil, append_assoc}
use Rattle.std.proofs.lemmas.List.{map-append}
use Rattle.std.proofs.lemmas.List.Elements.{All-map, All-filter, All-nil, Contains-append_left, Contains-append_right, Contains-append_cases, Contains-get_or, filter_more, filter-append}
use Rattle.std.proofs.lemmas.Bool.Decides.{eqb_tells}
use Rattle.hack_base.proofs.Members.{last_of, Contains-head, Contains-nil, Contains-cons_cases, Contains-map, Contains-map_from, Contains-filter, Contains-filter_from}
use Rattle.std.specs.List.{remove}
use Rattle.std.specs.Prelude.{◌&&◌, not, eqb}
use Rattle.hack_sets.specs.Sets.{IsSelection, IsBefore, IsListing}
use Rattle.hack_sets.specs.Questions.{is_whole, IsWholeSet}
use Rattle.hack_sets.specs.InternalQuestions.{with_next, AreComplete}
use Rattle.hack_sets.proofs.Listing.{selection_up, selection_push, selection_pop, selection_none, before_new, in_order-append, in_order-filter, in_order-push, below_or_same}

abbrev pub Passes : (List ℕ → Bool) → List ℕ → Type 0
Passes may s = may s ≡ true

module _ (may : List ℕ → Bool) (front : (t : List ℕ) (p : ℕ) → may (t ++ p ∷ []) ≡ true → may t ≡ true) (none : may [] ≡ true) (n : ℕ) (sets : List (List ℕ)) (h : IsListing n (Passes may) sets) where
  all_low : All (λ s. All (λ p. p < n) s) sets
  all_low = λ k d lt. (((h.exact _).0 (Contains-get_or sets k d lt)).0).below

  forward : (s : List ℕ) → Contains (sets ++ with_next may n sets) s → IsSelection (suc n) s × Passes may s
  forward s c =
      elim (Contains-append_cases sets (map (λ s. s ++ n ∷ []) (filter (λ s. may (s ++ n ∷ [])) sets)) s c) [
        | inl w ↦ (selection_up n (suc n) s (omega arith) ((h.exact s).0 w).0, ((h.exact s).0 w).1)
        | inr w ↦
            let from = Contains-map_from (λ s. s ++ n ∷ []) (filter (λ s. may (s ++ n ∷ [])) sets) s w in
            let kept = Contains-filter_from (λ s. may (s ++ n ∷ [])) sets from.0 from.1 in
            subst (λ t. IsSelection (suc n) t × Passes may t) from.2
            (selection_push n from.0 ((h.exact from.0).0 kept.0).0, kept.1)
      ]

  backward_last : (p : ℕ) (t : List ℕ) → IsSelection (suc n) (t ++ p ∷ []) → Passes may (t ++ p ∷ []) → (p < n) ⊎ (p ≡ n) → Contains (sets ++ with_next may n sets) (t ++ p ∷ [])
  backward_last p t hs hw (inl lt) =
      Contains-append_left sets _ _ ((h.exact (t ++ p ∷ [])).1 (selection_up (suc p) n (t ++ p ∷ []) (omega arith) (selection_push p t (selection_pop (suc n) p t hs).0), hw))
  backward_last p t hs hw (inr e) =
      Contains-append_right sets _ _ (subst (λ q. Contains (map (λ s. s ++ n ∷ []) (filter (λ s. may (s ++ n ∷ [])) sets)) (t ++ q ∷ [])) (sym e)
      (Contains-map (λ s. s ++ n ∷ []) (filter (λ s. may (s ++ n ∷ [])) sets) t
      (Contains-filter (λ s. may (s ++ n ∷ [])) sets t ((h.exact t).1 (subst (λ q. IsSelection q t) e (selection_pop (suc n) p t hs).0, front t p hw)) (subst (λ q. may (t ++ q ∷ []) ≡ true) e hw))))

  backward : (s : List ℕ) → IsSelection (suc n) s × Passes may s → Contains (sets ++ with_next may n sets) s
  backward s k =
      elim (last_of s) [
        | inl e ↦ Contains-append_left sets _ s ((h.exact s).1 (subst (λ t. IsSelection n t) (sym e) (selection_none n), k.1))
        | inr w ↦ subst (λ t. Contains (sets ++ with_next may n sets) t) (sym w.2)
            (let hs : IsSelection (suc n) (w.0 ++ w.1 ∷ []) = subst (λ t. IsSelection (suc n) t) w.2 k.0 in
            let hw : Passes may (w.0 ++ w.1 ∷ []) = subst (λ t. Passes may t) w.2 k.1 in
            backward_last w.1 w.0 hs hw (below_or_same w.1 n (selection_pop (suc n) w.1 w.0 hs).1))
      ]

  pub permitted_step : IsListing (suc n) (Passes may) (sets ++ with_next may n sets)
  permitted_step = record {
    ordered = in_order-append sets (map (λ s. s ++ n ∷ []) (filter (λ s. may (s ++ n ∷ [])) sets)) h.ordered
        (in_order-push n (filter (λ s. may (s ++ n ∷ [])) sets) (All-filter (λ s. may (s ++ n ∷ [])) (λ s. All (λ p. p < n) s) sets all_low) (in_order-filter (λ s. may (s ++ n ∷ [])) sets h.ordered))
        (λ k d lt. All-map (IsBefore (get_or sets k d)) (λ s. s ++ n ∷ []) (filter (λ s. may (s ++ n ∷ [])) sets)
        (λ j e in'. before_new n (get_or sets k d) (get_or (filter (λ s. may (s ++ n ∷ [])) sets) j e) (all_low k d lt) (All-filter (λ s. may (s ++ n ∷ [])) (λ s. All (λ p. p < n) s) sets all_low j e in')));
    exact = λ s. (forward s, backward s);
  }

-- the permitted sets below n, by the greatest position
abbrev pub permitted_below : (List ℕ → Bool) → ℕ → List (List ℕ)
permitted_below may zero = [] ∷ []
permitted_below may (suc n) = permitted_below may n ++ with_next may n (permitted_below may n)

remove-last : (t : List ℕ) (p : ℕ) → remove (t ++ p ∷ []) (length t) ≡ t
remove-last [] p = refl
remove-last (x ∷ t) p = ap (λ l. x ∷ l) (remove-last t p)

pub permitted_listing : (may : List ℕ → Bool) → may [] ≡ true → ((s : List ℕ) (i : ℕ) → i < length s → may s ≡ true → may (remove s i) ≡ true) → (n : ℕ) → IsListing n (Passes may) (permitted_below may n)
permitted_listing may none closed zero = record {
  ordered = (All-nil (IsBefore []), tt);
  exact = λ s. (
    λ c. elim (Contains-cons_cases [] [] s c) [ inl e ↦ subst (λ t. IsSelection 0 t × Passes may t) e (selection_none 0, none) | inr w ↦ absurd (Contains-nil s w) ],
    λ h. elim (last_of s) [ inl e ↦ subst (λ t. Contains ([] ∷ []) t) (sym e) (Contains-head [] []) | inr w ↦ absurd (let q : w.1 < 0 = (selection_pop 0 w.1 w.0 (subst (λ t. IsSelection 0 t) w.2 h.0)).1 in omega arith) ],
  );
}
permitted_listing may none closed (suc n) =
    permitted_step may (λ t p e. subst (λ l. may l ≡ true) (remove-last t p) (closed (t ++ p ∷ []) (length t) (omega (arith, length-append t (p ∷ []))) e)) none n (permitted_below may n) (permitted_listing may none closed n)

pub all_selections : (may : List ℕ → Bool) → may [] ≡ true → ((s : List ℕ) (i : ℕ) → i < length s → may s ≡ true → may (remove s i) ≡ true) → (n : ℕ) → All (IsSelection n) (permitted_below may n)
all_selections may none closed n = λ k d lt. (((permitted_listing may none closed n).exact _).0 (Contains-get_or (permitted_below may n) k d lt)).0

-- the listed sets that also pass a test
pub listing_filter : (n : ℕ) (P : List ℕ → Type 0) (test : List ℕ → Bool) (sets : List (List ℕ)) → IsListing n P sets → IsListing n (λ s. P s × (test s ≡ true)) (filter test sets)
listing_filter n P test sets h = record {
  ordered = in_order-filter test sets h.ordered;
  exact = λ s. (
    λ c. let k = Contains-filter_from test sets s c in (((h.exact s).0 k.0).0, (((h.exact s).0 k.0).1, k.1)),
    λ w. Contains-filter test sets s ((h.exact s).1 (w.0, w.1.0)) w.1.1,
  );
}

pub listing_same : (n : ℕ) (P Q : List ℕ → Type 0) (sets : List (List ℕ)) → ((s : List ℕ) → P s ↔ Q s) → IsListing n P sets → IsListing n Q sets
listing_same n P Q sets same h = record {
  ordered = h.ordered;
  exact = λ s. (λ c. (((h.exact s).0 c).0, (same s).0 ((h.exact s).0 c).1), λ w. (h.exact s).1 (w.0, (same s).1 w.1));
}

pub nonzero : (n : ℕ) → eqb (suc n) 0 ≡ false
nonzero n = elim (eqb_tells (suc n) 0) [ inl e ↦ absurd (let z : suc n ≡ 0 = e.1 in omega arith) | inr w ↦ w.0 ]

-- a set with a position isn't empty
pub whole-cons : (complete : List ℕ → Bool) (x : ℕ) (s : List ℕ) → is_whole complete (x ∷ s) ≡ complete (x ∷ s)
whole-cons complete x s = ap (λ b. not b && complete (x ∷ s)) (nonzero (length s))

pub whole_iff : (may complete : List ℕ → Bool) (s : List ℕ) → ((may s ≡ true) × (is_whole complete s ≡ true)) ↔ IsWholeSet may complete s
whole_iff may complete [] = (λ h. absurd (let e : false ≡ true = h.1 in cc), λ h. absurd (h.nonempty refl))
whole_iff may complete (x ∷ s) = (λ h. record { nonempty = λ e. (cc); allowed = h.0; completed = sym (whole-cons complete x s) ∙ h.1 }, λ h. (h.allowed, whole-cons complete x s ∙ h.completed))

whole-push : (complete : List ℕ → Bool) (s : List ℕ) (p : ℕ) → is_whole complete (s ++ p ∷ []) ≡ complete (s ++ p ∷ [])
whole-push complete [] p = whole-cons complete p []
whole-push complete (x ∷ s) p = whole-cons complete x (s ++ p ∷ [])

drop-one-push : (xs : List (List ℕ)) (x : List ℕ) → 0 < length xs → drop 1 (xs ++ x ∷ []) ≡ drop 1 xs ++ x ∷ []
drop-one-push [] x h = absurd (omega arith)
drop-one-push (y ∷ xs) x h = refl

-- all sets but the first are complete, also after one more that is complete
pub complete-push : (complete : List ℕ → Bool) (sets : List (List ℕ)) (s : List ℕ) (p : ℕ) → 0 < length sets → complete (s ++ p ∷ []) ≡ true → AreComplete complete sets → AreComplete complete (sets ++ (s ++ p ∷ []) ∷ [])
complete-push complete sets s p pos e before =
    filter-append (is_whole complete) sets ((s ++ p ∷ []) ∷ [])
    ∙ ap (λ b. filter (is_whole complete) sets ++ cond b ((s ++ p ∷ []) ∷ []) []) (whole-push complete s p ∙ e)
    ∙ ap (λ l. l ++ (s ++ p ∷ []) ∷ []) before
    ∙ sym (drop-one-push sets (s ++ p ∷ []) pos)

-- the same for several more sets, each extended by the same position
pub complete-each : (complete : List ℕ → Bool) (sets more : List (List ℕ)) (p : ℕ) → 0 < length sets → ((s : List ℕ) → complete s ≡ true) → AreComplete complete sets
    → AreComplete complete (sets ++ map (λ s. s ++ p ∷ []) more)
complete-each complete sets [] p pos each before = subst (AreComplete complete) (sym (append-nil sets)) before
complete-each complete sets (s ∷ more) p pos each before =
    subst (AreComplete complete) (append_assoc sets ((s ++ p ∷ []) ∷ []) (map (λ t. t ++ p ∷ []) more))
    (complete-each complete (sets ++ (s ++ p ∷ []) ∷ []) more p (omega (arith, length-append sets ((s ++ p ∷ []) ∷ []))) each
    (complete-push complete sets s p pos (each (s ++ p ∷ [])) before))

-- the places of complete sets after one more set
pub places-more : (test : List ℕ → Bool) (sets : List (List ℕ)) (k : ℕ) (b : Bool) (places new : List ℕ) → k < length sets → b ≡ test (get_or sets k []) → new ≡ places ++ cond b (k ∷ []) []
    → map (λ p. get_or sets p []) places ≡ filter test (take k sets) → map (λ p. get_or sets p []) new ≡ filter test (take (k + 1) sets)
places-more test sets k b places new h e pushed before =
    ap (map (λ p. get_or sets p [])) pushed
    ∙ map-append (λ p. get_or sets p []) places (cond b (k ∷ []) [])
    ∙ ap (λ l. l ++ map (λ p. get_or sets p []) (cond b (k ∷ []) [])) before
    ∙ ap (λ l. filter test (take k sets) ++ l) (one b)
    ∙ ap (λ c. filter test (take k sets) ++ cond c (get_or sets k [] ∷ []) []) e
    ∙ sym (filter_more test sets k [] h)
  where
    one : (c : Bool) → map (λ p. get_or sets p []) (cond c (k ∷ []) []) ≡ cond c (get_or sets k [] ∷ []) []
    one true = refl
    one false = refl

pub listed_selections : (n : ℕ) (P : List ℕ → Type 0) (sets : List (List ℕ)) → IsListing n P sets → All (IsSelection n) sets
listed_selections n P sets h = λ k d lt. ((h.exact _).0 (Contains-get_or sets k d lt)).0
