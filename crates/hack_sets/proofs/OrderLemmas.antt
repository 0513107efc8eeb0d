-- The order of sets, found from the ends of two increasing lists.
use Rattle.std.proofs.Common.{◌≡◌, ◌≢◌, ℕ, suc, ◌<◌, inl, inr, Contains, List, [], ◌∷◌, ◌++◌, length, get_or, sym, ap, subst, arith, refl, AllPairs, length-append, Ordering, Less, Equal, Greater}
use Rattle.std.specs.Ordering.{MatchOrdering, nat_cmp}
use Rattle.std.specs.Cmp.{ranks}
use Rattle.std.proofs.lemmas.Bool.{cases_eq, cases_lt}
use Rattle.std.proofs.Math.ListN.{get_or-append}
use Rattle.std.proofs.Math.Seq.{get_or-append_seam}
use Rattle.std.proofs.lemmas.List.Elements.{All-nil}
use Rattle.hack_sets.specs.Sets.{IsSelection, IsBefore}
use Rattle.hack_sets.proofs.Listing.{selection_push, selection_up, before_new, before_push}

-- the list is increasing
abbrev pub Increases : List ℕ → Type 0
Increases s = AllPairs (λ p q. p < q) s

-- the positions before the last are less than it
pub front_below : (p : ℕ) (t : List ℕ) → Increases (t ++ p ∷ []) → IsSelection p t
front_below p t h = record {
  increasing = λ i j d lt in'. rw (← get_or-append t (p ∷ []) d i (omega arith), ← get_or-append t (p ∷ []) d j in') (h i j d lt (omega (arith, length-append t (p ∷ []))));
  below = λ k d lt. subst (λ q. get_or t k d < q) (get_or-append_seam t p [] d) (rw (← get_or-append t (p ∷ []) d k lt) (h k (length t) d lt (omega (arith, length-append t (p ∷ [])))));
}

-- the empty set is first
pub none_first : (p : ℕ) (s t : List ℕ) → length s ≡ 0 → Increases (t ++ p ∷ []) → IsBefore s (t ++ p ∷ [])
none_first p [] t e h = before_new p [] t (All-nil (λ q. q < p)) (front_below p t h).below
none_first p (x ∷ s) t e h = absurd (omega arith)

-- what an ordering says of two sets
abbrev pub Stand : Ordering → List ℕ → List ℕ → Type 0
Stand r s t = MatchOrdering r (IsBefore s t) (s ≡ t) (IsBefore t s)

same_last-go : (r : Ordering) (p : ℕ) (s t : List ℕ) → Increases (s ++ p ∷ []) → Increases (t ++ p ∷ []) → Stand r s t → Stand r (s ++ p ∷ []) (t ++ p ∷ [])
same_last-go Less p s t hs ht b = before_push p s t (front_below p t ht).below b
same_last-go Equal p s t hs ht e = ap (λ l. l ++ p ∷ []) e
same_last-go Greater p s t hs ht b = before_push p t s (front_below p s hs).below b

-- two sets with the same last position are ordered like the sets without it
pub same_last : (r : Ordering) (p q : ℕ) (s t : List ℕ) → p ≡ q → Increases (s ++ p ∷ []) → Increases (t ++ q ∷ []) → Stand r s t → Stand r (s ++ p ∷ []) (t ++ q ∷ [])
same_last r p q s t e hs ht h =
    subst (λ x. Stand r (s ++ p ∷ []) (t ++ x ∷ [])) e (same_last-go r p s t hs (subst (λ x. Increases (t ++ x ∷ [])) (sym e) ht) h)

less_last : (p q : ℕ) (s t : List ℕ) → p < q → Increases (s ++ p ∷ []) → Increases (t ++ q ∷ []) → IsBefore (s ++ p ∷ []) (t ++ q ∷ [])
less_last p q s t lt hs ht =
    before_new q (s ++ p ∷ []) t (selection_up (suc p) q (s ++ p ∷ []) (omega arith) (selection_push p s (front_below p s hs))).below (front_below q t ht).below

other_last-go : (r : Ordering) (p q : ℕ) (s t : List ℕ) → r ≢ Equal → MatchOrdering r (p < q) (p ≡ q) (q < p) → Increases (s ++ p ∷ []) → Increases (t ++ q ∷ []) → Stand r (s ++ p ∷ []) (t ++ q ∷ [])
other_last-go Less p q s t ne lt hs ht = less_last p q s t lt hs ht
other_last-go Equal p q s t ne e hs ht = absurd (ne refl)
other_last-go Greater p q s t ne lt hs ht = less_last q p t s lt ht hs

-- two sets with different last positions are ordered like these
pub other_last : (p q : ℕ) (s t : List ℕ) → nat_cmp p q ≢ Equal → Increases (s ++ p ∷ []) → Increases (t ++ q ∷ []) → Stand (nat_cmp p q) (s ++ p ∷ []) (t ++ q ∷ [])
other_last p q s t ne hs ht = other_last-go (nat_cmp p q) p q s t ne (ranks p q) hs ht

same_of-go : (r : Ordering) (p q : ℕ) → r ≡ Equal → MatchOrdering r (p < q) (p ≡ q) (q < p) → p ≡ q
same_of-go Less p q e h = absurd (cc)
same_of-go Equal p q e h = h
same_of-go Greater p q e h = absurd (cc)

pub same_of : (p q : ℕ) → nat_cmp p q ≡ Equal → p ≡ q
same_of p q e = same_of-go (nat_cmp p q) p q e (ranks p q)

-- the order of sets

pub before_trans : (s t u : List ℕ) → IsBefore s t → IsBefore t u → IsBefore s u
before_trans s t u a b =
    elim (cases_lt a.greatest b.greatest) [
      | inl lt ↦ record {
        greatest = b.greatest;
        absent = λ c. b.absent ((a.above b.greatest lt).0 c);
        present = b.present;
        above = λ p gt. (λ c. (b.above p gt).0 ((a.above p (omega arith)).0 c), λ c. (a.above p (omega arith)).1 ((b.above p gt).1 c));
      }
      | inr le ↦ elim (cases_eq a.greatest b.greatest) [
        | inl e ↦ absurd (b.absent (subst (λ g. Contains t g) e a.present))
        | inr n ↦ record {
          greatest = a.greatest;
          absent = a.absent;
          present = (b.above a.greatest (let ne : a.greatest ≢ b.greatest = n in omega arith)).0 a.present;
          above = λ p gt. (λ c. (b.above p (omega arith)).0 ((a.above p gt).0 c), λ c. (a.above p gt).1 ((b.above p (omega arith)).1 c));
        }
      ]
    ]
