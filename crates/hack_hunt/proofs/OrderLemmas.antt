-- The order in which builds are reported.
use Rattle.std.specs.Prelude.{ℕ, ◌≡◌, Bool, false, List, [], ◌∷◌, ◌++◌, All, reverse}
use Rattle.std.specs.Cmp.Lexicographic.{nat_list_cmp_total, slice_cmp}
use Rattle.std.specs.List.{AllZip}
use Rattle.std.specs.List.Sorted.{IsSortedBy}
use Rattle.std.specs.Ordering.{is_lt, nat_cmp, ordering_then}
use Rattle.std.proofs.Common.{Equal, Greater, Less, Ordering, arith, get_or, refl, subst, sym}
use Rattle.std.proofs.lemmas.Bool.{true≢false}
use Rattle.std.proofs.lemmas.List.{reverse-append, reverse-reverse}
use Rattle.std.proofs.lemmas.List.Elements.{All-cons, All-nil}
use Rattle.std.proofs.lemmas.List.Sorted.{ranks_by, sorted_far}
use Rattle.hack_closures.specs.Closures.{IsBuildFor}
use Rattle.hack_closures.specs.declared.build.Build.{Build}
use Rattle.hack_closures.specs.declared.build.Build.TheVariants.{NoFeatures, AllFeatures, Set}
use Rattle.hack_conflicts.specs.declared.rules.Rules.{Rules as SearchRules}
use Rattle.hack_sets.proofs.OrderLemmas.{before_trans, Increases, Stand, front_below, none_first, other_last, same_last, same_of}
use Rattle.hack_features.specs.Rules.{Choice}
use Rattle.hack_sets.specs.Sets.{IsBefore}
use Rattle.hack_hunt.specs.Hunts.{AreInOrder, Precedes}
use Rattle.hack_hunt.specs.Internal.{Rises, compared, key_of}

reverse-cons : (x : ℕ) (xs : List ℕ) → reverse (x ∷ xs) ≡ reverse xs ++ x ∷ []
reverse-cons x xs = reverse-append (x ∷ []) xs

-- two sets with these last positions stand as these, and else as what is before them
by-last : (r : Ordering) (p q : ℕ) (us vs : List ℕ) → nat_cmp p q ≡ r → Increases (reverse us ++ p ∷ []) → Increases (reverse vs ++ q ∷ [])
    → (Increases (reverse us) → Increases (reverse vs) → Stand (slice_cmp nat_cmp us vs) (reverse us) (reverse vs)) → Stand (ordering_then r (slice_cmp nat_cmp us vs)) (reverse us ++ p ∷ []) (reverse vs ++ q ∷ [])
by-last Less p q us vs e a b before = subst (λ r. Stand r (reverse us ++ p ∷ []) (reverse vs ++ q ∷ [])) e (other_last p q (reverse us) (reverse vs) (λ f. absurd cc) a b)
by-last Equal p q us vs e a b before = same_last (slice_cmp nat_cmp us vs) p q (reverse us) (reverse vs) (same_of p q e) a b (before (front_below p (reverse us) a).increasing (front_below q (reverse vs) b).increasing)
by-last Greater p q us vs e a b before = subst (λ r. Stand r (reverse us ++ p ∷ []) (reverse vs ++ q ∷ [])) e (other_last p q (reverse us) (reverse vs) (λ f. absurd cc) a b)

-- what comes of a comparison from the ends is what is before
stands : (us vs : List ℕ) → Increases (reverse us) → Increases (reverse vs) → Stand (slice_cmp nat_cmp us vs) (reverse us) (reverse vs)
stands [] [] a b = refl
stands [] (q ∷ vs) a b = subst (λ l. IsBefore [] l) (sym (reverse-cons q vs)) (none_first q [] (reverse vs) refl (subst Increases (reverse-cons q vs) b))
stands (p ∷ us) [] a b = subst (λ l. IsBefore [] l) (sym (reverse-cons p us)) (none_first p [] (reverse us) refl (subst Increases (reverse-cons p us) a))
stands (p ∷ us) (q ∷ vs) a b =
    subst (λ l. Stand (slice_cmp nat_cmp (p ∷ us) (q ∷ vs)) l (reverse (q ∷ vs))) (sym (reverse-cons p us)) (subst (λ l. Stand (slice_cmp nat_cmp (p ∷ us) (q ∷ vs)) (reverse us ++ p ∷ []) l) (sym (reverse-cons q vs))
    (by-last (nat_cmp p q) p q us vs refl (subst Increases (reverse-cons p us) a) (subst Increases (reverse-cons q vs) b) (stands us vs)))

not-less : (r : Ordering) (s t : List ℕ) → is_lt r ≡ false → Stand r s t → ¬ IsBefore s t
not-less Less s t more stand before = true≢false more
not-less Equal s t more same before = let there = subst (λ l. IsBefore l t) same before in there.absent there.present
not-less Greater s t more behind before = let there = before_trans s t s before behind in there.absent there.present

not-before : (s t : List ℕ) → Increases s → Increases t → is_lt (compared s t) ≡ false → ¬ IsBefore s t
not-before s t a b more =
    not-less (compared s t) s t more (subst (λ l. Stand (compared s t) l t) (reverse-reverse s) (subst (λ l. Stand (compared s t) (reverse (reverse s)) l) (reverse-reverse t)
    (stands (reverse s) (reverse t) (subst Increases (sym (reverse-reverse s)) a) (subst Increases (sym (reverse-reverse t)) b))))

-- what isn't less doesn't come before
none-before : (later one : Build) → Rises later → Rises one → is_lt (slice_cmp nat_cmp (key_of later) (key_of one)) ≡ false → ¬ Precedes later one
none-before NoFeatures NoFeatures a b more before = before
none-before NoFeatures (Set t) a b more before = true≢false more
none-before NoFeatures AllFeatures a b more before = true≢false more
none-before (Set s) NoFeatures a b more before = before
none-before (Set s) (Set t) a b more before = not-before s.items t.items a b more before
none-before (Set s) AllFeatures a b more before = true≢false more
none-before AllFeatures NoFeatures a b more before = before
none-before AllFeatures (Set t) a b more before = before
none-before AllFeatures AllFeatures a b more before = before

-- builds that are sorted are in order
pub sorted_builds : (builds : List Build) → All Rises builds → IsSortedBy (λ one other. is_lt (slice_cmp nat_cmp (key_of one) (key_of other))) builds → AreInOrder builds
sorted_builds builds rise sorted = λ i j d lt le.
    none-before (get_or builds j d) (get_or builds i d) (rise j d le) (rise i d (omega (arith, lt, le)))
    (sorted_far (λ one other. is_lt (slice_cmp nat_cmp (key_of one) (key_of other))) (ranks_by nat_list_cmp_total key_of) builds sorted i j d (omega (arith, lt)) le)

rises : (c : Choice) (alone : List ℕ) (all : Bool) (r : SearchRules) (set : List Bool) (build : Build) → IsBuildFor c alone all r set build → Rises build
rises c alone all r set NoFeatures is = tt
rises c alone all r set AllFeatures is = tt
rises c alone all r set (Set t) is = is.1.selection.increasing

-- the positions of what is built for sets rise
pub built_rise : (c : Choice) (alone : List ℕ) (all : Bool) (r : SearchRules) (sets : List (List Bool)) (builds : List Build) → AllZip (IsBuildFor c alone all r) sets builds → All Rises builds
built_rise c alone all r [] [] zip = All-nil Rises
built_rise c alone all r [] (build ∷ builds) zip = absurd zip
built_rise c alone all r (set ∷ sets) [] zip = absurd zip
built_rise c alone all r (set ∷ sets) (build ∷ builds) zip = All-cons Rises build builds (rises c alone all r set build zip.0) (built_rise c alone all r sets builds zip.1)
