-- What the laws of changes, one after another, are proved by.
use Rattle.std.specs.Prelude.{not}
use Rattle.std.specs.List.{filter}
use Rattle.std.proofs.Common.{◌≡◌, ℕ, Bool, List, [], ◌∷◌, ◌++◌, refl, sym, ◌∙◌, ap, subst, append-nil, append_assoc}
use Rattle.std.proofs.lemmas.List.Elements.{filter-append}
use Rattle.hack_files.specs.Files.{Change, ComesNext, Contents, Makes, Trace, after, after_change, by_kind, in_order}

-- what the paths hold after two lists of changes, one after the other
pub after_append : (xs ys : List Change) (m : Contents) → after (xs ++ ys) m ≡ after ys (after xs m)
after_append [] ys m = refl
after_append (x ∷ xs) ys m = after_append xs ys (after_change x m)

-- no change comes next
pub none_next : (t : Trace) → ComesNext [] t t
none_next (in_order cs) = sym (append-nil cs)
none_next (by_kind is these others) = (refl, none_next these, none_next others)

-- some changes come next, and then others
pub more_next : (xs ys : List Change) (t u v : Trace) → ComesNext xs t u → ComesNext ys u v → ComesNext (xs ++ ys) t v
more_next xs ys (in_order t) (in_order u) (in_order v) f g = g ∙ ap (λ l. l ++ ys) f ∙ append_assoc t xs ys
more_next xs ys (by_kind is a b) (by_kind was c d) (by_kind now e h) f g =
    let G : (List ℕ → Bool) → Type 0 = λ k. (now ≡ k) × ComesNext (filter (λ x. k x.path) ys) c e × ComesNext (filter (λ x. not (k x.path)) ys) d h in
    let then : G is = subst G f.0 g in (
      then.0,
      subst (λ (l : List Change). ComesNext l a e) (sym (filter-append (λ x. is x.path) xs ys)) (more_next (filter (λ x. is x.path) xs) (filter (λ x. is x.path) ys) a c e f.1 then.1),
      subst (λ (l : List Change). ComesNext l b h) (sym (filter-append (λ x. not (is x.path)) xs ys)) (more_next (filter (λ x. not (is x.path)) xs) (filter (λ x. not (is x.path)) ys) b d h f.2 then.2),
    )
more_next xs ys (in_order t) (by_kind was c d) v f g = absurd f
more_next xs ys (by_kind is a b) (in_order u) v f g = absurd f
more_next xs ys (in_order t) (in_order u) (by_kind now e h) f g = absurd g
more_next xs ys (by_kind is a b) (by_kind was c d) (in_order v) f g = absurd g

-- no change comes next, twice
pub nothing_next : (t u v : Trace) → ComesNext [] t u → ComesNext [] u v → ComesNext [] t v
nothing_next t u v f g = more_next [] [] t u v f g

-- no change was made
pub makes_none : (t : Trace) (m : Contents) → Makes [] t t m m
makes_none t m = record { traced = none_next t; holds = refl }

-- some changes were made, and then others
pub makes_more : (xs ys : List Change) (t u v : Trace) (m n w : Contents) → Makes xs t u m n → Makes ys u v n w → Makes (xs ++ ys) t v m w
makes_more xs ys t u v m n w f g = record {
  traced = more_next xs ys t u v f.traced g.traced;
  holds = g.holds ∙ ap (after ys) f.holds ∙ sym (after_append xs ys m);
}

-- some changes were made, and then none
pub makes_still : (xs : List Change) (t u v : Trace) (m n w : Contents) → Makes xs t u m n → Makes [] u v n w → Makes xs t v m w
makes_still xs t u v m n w f g = subst (λ (l : List Change). Makes l t v m w) (append-nil xs) (makes_more xs [] t u v m n w f g)
