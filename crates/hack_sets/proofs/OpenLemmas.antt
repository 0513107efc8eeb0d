-- Places of sets that may have one more position, while sets are added.
use Rattle.std.proofs.Common.{◌≡◌, ℕ, ◌+◌, ◌<◌, ◌≤◌, List, [], ◌∷◌, ◌++◌, length, get_or, take, map, filter, refl, sym, ◌∙◌, ap, subst, arith, Bool, true, false, cond, All, Some, IsTrue, ◌⊎◌, inl, inr, length-append, append-nil, append_assoc}
use Rattle.std.proofs.lemmas.List.{map-append}
use Rattle.std.proofs.lemmas.List.Elements.{All-head, All-tail, All-push, All-weaker, filter-append}
use Rattle.std.proofs.Math.ListN.{get_or-append}
use Rattle.std.proofs.Math.Seq.{get_or-append_seam}
use Rattle.hack_sets.specs.InternalQuestions.{with_next, AreOpen}
use Rattle.hack_sets.specs.Sets.{IsWithin}
use Rattle.hack_base.proofs.Steps.{seen-next}

-- the set at a place
abbrev pub at : List (List ℕ) → ℕ → List ℕ
at sets p = get_or sets p []

pub with_next-append : (may : List ℕ → Bool) (next : ℕ) (xs ys : List (List ℕ)) → with_next may next (xs ++ ys) ≡ with_next may next xs ++ with_next may next ys
with_next-append may next xs ys =
    ap (map (λ s. s ++ next ∷ [])) (filter-append (λ s. may (s ++ next ∷ [])) xs ys)
    ∙ map-append (λ s. s ++ next ∷ []) (filter (λ s. may (s ++ next ∷ [])) xs) (filter (λ s. may (s ++ next ∷ [])) ys)

-- sets that are added at the end change none at an earlier place
at-kept : (sets more : List (List ℕ)) (places : List ℕ) → All (λ p. p < length sets) places → map (at (sets ++ more)) places ≡ map (at sets) places
at-kept sets more [] h = refl
at-kept sets more (p ∷ places) h =
    ap (λ s. s ∷ map (at (sets ++ more)) places) (get_or-append sets more [] p (All-head (λ q. q < length sets) p places h))
    ∙ ap (λ l. at sets p ∷ l) (at-kept sets more places (All-tail (λ q. q < length sets) p places h))

more-inside : (sets : List (List ℕ)) (t : List ℕ) (places : List ℕ) → All (λ p. p < length sets) places → All (λ p. p < length (sets ++ t ∷ [])) places
more-inside sets t places h = All-weaker (λ p. p < length sets) (λ p. p < length (sets ++ t ∷ [])) (λ p lt. omega (arith, length-append sets (t ∷ []))) places h

-- one more set, which is open
pub open-more : (may : List ℕ → Bool) (sets : List (List ℕ)) (places : List ℕ) (t : List ℕ) → AreOpen may sets places → AreOpen may (sets ++ t ∷ []) (places ++ length sets ∷ [])
open-more may sets places t h = record {
  inside = All-push (λ p. p < length (sets ++ t ∷ [])) places (length sets) (more-inside sets t places h.inside) (omega (arith, length-append sets (t ∷ [])));
  few = omega (arith, h.few, length-append sets (t ∷ []), length-append places (length sets ∷ []));
  same = λ next.
      ap (with_next may next) (map-append (at (sets ++ t ∷ [])) places (length sets ∷ []))
      ∙ ap (λ l. with_next may next (l ++ at (sets ++ t ∷ []) (length sets) ∷ [])) (at-kept sets (t ∷ []) places h.inside)
      ∙ ap (λ s. with_next may next (map (at sets) places ++ s ∷ [])) (get_or-append_seam sets t [] [])
      ∙ with_next-append may next (map (at sets) places) (t ∷ [])
      ∙ ap (λ l. l ++ with_next may next (t ∷ [])) (h.same next)
      ∙ sym (with_next-append may next sets (t ∷ []));
}

-- one more set, which may have no further position
pub open-full : (may : List ℕ → Bool) (sets : List (List ℕ)) (places : List ℕ) (t : List ℕ) → AreOpen may sets places → ((next : ℕ) → may (t ++ next ∷ []) ≡ false) → AreOpen may (sets ++ t ∷ []) places
open-full may sets places t h full = record {
  inside = more-inside sets t places h.inside;
  few = omega (arith, h.few, length-append sets (t ∷ []));
  same = λ next.
      ap (with_next may next) (at-kept sets (t ∷ []) places h.inside)
      ∙ h.same next
      ∙ sym (append-nil (with_next may next sets))
      ∙ ap (λ b. with_next may next sets ++ map (λ s. s ++ next ∷ []) (cond b (t ∷ []) [])) (sym (full next))
      ∙ sym (with_next-append may next sets (t ∷ []));
}

not_true : (b : Bool) → ((b ≡ true) → ⊥) → b ≡ false
not_true true h = absurd (h refl)
not_true false h = refl

-- a set that has more positions than a permitted one may have is refused
pub too-long : (may : List ℕ → Bool) (most : ℕ) (t : List ℕ) → ((s : List ℕ) → IsTrue (may s) → IsWithin (Some most) s) → most < length t → may t ≡ false
too-long may most t law lt = not_true (may t) (λ e. let few : length t ≤ most = law t e in omega (arith, few, lt))

-- a set that has as many positions as a permitted one may have is full
pub full-at : (may : List ℕ → Bool) (most : ℕ) (t : List ℕ) → ((s : List ℕ) → may s ≡ true → length s ≤ most) → most ≤ length t → (next : ℕ) → may (t ++ next ∷ []) ≡ false
full-at may most t law le next = too-long may most (t ++ next ∷ []) law (omega (arith, le, length-append t (next ∷ [])))

-- after one question: no set was added, or a full one
pub open-asked : (may : List ℕ → Bool) (most : ℕ) (sets new : List (List ℕ)) (places : List ℕ) (s : List ℕ) (next : ℕ) → ((t : List ℕ) → may t ≡ true → length t ≤ most) → new ≡ sets ++ with_next may next (s ∷ [])
    → AreOpen may sets places → (most ≤ length s + 1) ⊎ (length new ≤ length sets) → AreOpen may new places
open-asked may most sets new places s next law is h why =
    subst (λ l. AreOpen may l places) (sym is) (go (may (s ++ next ∷ [])) (elim why [ inl w ↦ inl w | inr w ↦ inr (subst (λ l. length l ≤ length sets) is w) ]))
  where
    go : (b : Bool) → (most ≤ length s + 1) ⊎ (length (sets ++ map (λ t. t ++ next ∷ []) (cond b (s ∷ []) [])) ≤ length sets) → AreOpen may (sets ++ map (λ t. t ++ next ∷ []) (cond b (s ∷ []) [])) places
    go true (inl full) = open-full may sets places (s ++ next ∷ []) h (full-at may most (s ++ next ∷ []) law (omega (arith, length-append s (next ∷ []))))
    go true (inr none) = absurd (omega (arith, length-append sets ((s ++ next ∷ []) ∷ [])))
    go false why = subst (λ l. AreOpen may l places) (sym (append-nil sets)) h

-- a set was added
pub open-gone_in : (may : List ℕ → Bool) (sets new : List (List ℕ)) (places : List ℕ) (s : List ℕ) (next : ℕ) → new ≡ sets ++ with_next may next (s ∷ []) → length sets < length new
    → AreOpen may sets places → AreOpen may new (places ++ length sets ∷ [])
open-gone_in may sets new places s next is more h =
    subst (λ l. AreOpen may l (places ++ length sets ∷ [])) (sym is) (go (may (s ++ next ∷ [])) (subst (λ l. length sets < length l) is more))
  where
    go : (b : Bool) → length sets < length (sets ++ map (λ t. t ++ next ∷ []) (cond b (s ∷ []) [])) → AreOpen may (sets ++ map (λ t. t ++ next ∷ []) (cond b (s ∷ []) [])) (places ++ length sets ∷ [])
    go true more = open-more may sets places (s ++ next ∷ []) h
    go false more = absurd (omega (arith, length-append sets []))

-- the sets at the places so far and at one more
pub next-place : (may : List ℕ → Bool) (old sets new : List (List ℕ)) (next : ℕ) (places : List ℕ) (k place : ℕ) (s : List ℕ) → k < length places → place ≡ get_or places k place → s ≡ at old place
    → sets ≡ old ++ with_next may next (take k (map (at old) places)) → new ≡ sets ++ with_next may next (s ∷ []) → new ≡ old ++ with_next may next (take (k + 1) (map (at old) places))
next-place may old sets new next places k place s lt here is before pushed =
    pushed
    ∙ ap (λ l. l ++ with_next may next (s ∷ [])) before
    ∙ ap (λ t. (old ++ with_next may next (take k (map (at old) places))) ++ with_next may next (t ∷ [])) is
    ∙ append_assoc old (with_next may next (take k (map (at old) places))) (with_next may next (at old place ∷ []))
    ∙ ap (λ l. old ++ l) (sym (with_next-append may next (take k (map (at old) places)) (at old place ∷ [])))
    ∙ ap (λ l. old ++ with_next may next l) (sym (seen-next (at old) places k place lt here))
