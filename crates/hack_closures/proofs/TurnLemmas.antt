-- Candidates that turn each other on.
use Rattle.std.proofs.Common.{ℕ, List, [], ◌∷◌, get_or, sym, subst, inl, inr, Contains}
use Rattle.std.proofs.lemmas.List.Elements.{All-contains, Contains-get_or}
use Rattle.hack_base.proofs.Members.{Contains-nil, Contains-cons_cases, Contains-head}
use Rattle.hack_base.specs.Names.{Name}
use Rattle.hack_routes.specs.FeatureMap.{here, Enables}
use Rattle.hack_features.specs.Rules.{Choice, names_at, names_in, IsEnabledBy}
use Rattle.hack_features.specs.Samples.{IsOn}
use Rattle.hack_features.specs.Settings.{IsOnWithAll, IsEnabledByKey}
use Rattle.hack_features.proofs.Coverage.{Chain-append, named_in}
use Rattle.hack_features.proofs.Single.{member_of}
use Rattle.hack_features.proofs.Decided.{Told, all_told, among_told, enables_told}
use Rattle.hack_closures.specs.Closures.{TurnsOn}

module _ (c : Choice) where
  -- a name of the set of one candidate is a name of the candidate
  pub of_one : (p : ℕ) (x : Name) → Contains (names_in c (p ∷ [])) x → Contains (names_at c p) x
  of_one p x h =
      let w = member_of c (p ∷ []) x h in
      elim (Contains-cons_cases p [] w.0 w.1) [
        | inl e ↦ subst (λ q. Contains (names_at c q) x) (sym e) w.2
        | inr n ↦ absurd (Contains-nil w.0 n)
      ]

  pub to_one : (p : ℕ) (x : Name) → Contains (names_at c p) x → Contains (names_in c (p ∷ [])) x
  to_one p x h = named_in c (p ∷ []) p x (Contains-head p []) h

  -- what a member enables the set enables
  pub by_member : (s : List ℕ) (p : ℕ) (y : Name) → Contains s p → IsEnabledBy c (p ∷ []) y → IsEnabledBy c s y
  by_member s p y there e = (e.0, named_in c s p e.0 there (of_one p e.0 e.1), e.2)

  -- what a set enables a member enables
  pub some_member : (s : List ℕ) (y : Name) → IsEnabledBy c s y → (p : ℕ) × Contains s p × IsEnabledBy c (p ∷ []) y
  some_member s y e = let w = member_of c s e.0 e.1 in (w.0, w.1, (e.0, to_one w.0 e.0 w.2, e.2))

  -- what a candidate enables that is turned on by another the other enables
  pub enabled_through : (p q : ℕ) (y : Name) → IsOn c (p ∷ []) q → IsEnabledBy c (q ∷ []) y → IsEnabledBy c (p ∷ []) y
  enabled_through p q y on e =
      let by = All-contains (IsEnabledBy c (p ∷ [])) (names_at c q) e.0 on (of_one q e.0 e.1) in
      (by.0, by.1, Chain-append by.2 e.2)

  on_with_all_through : (p q : ℕ) → IsOnWithAll c p → IsOn c (p ∷ []) q → IsOnWithAll c q
  on_with_all_through p q all on k d lt =
      let e = on k d lt in
      let by = All-contains (IsEnabledByKey c.map) (names_at c p) e.0 all (of_one p e.0 e.1) in
      (by.0, by.1, Chain-append by.2 e.2)

  pub turns_itself : (p : ℕ) → TurnsOn c p p
  turns_itself p = record {
    on = λ k d lt. (get_or (names_at c p) k d, to_one p (get_or (names_at c p) k d) (Contains-get_or (names_at c p) k d lt), here);
    reaches = λ k d lt h. h;
  }

  pub turns_through : (p q s : ℕ) → TurnsOn c p q → TurnsOn c q s → TurnsOn c p s
  turns_through p q s a b = record {
    on = λ k d lt. enabled_through p q (get_or (names_at c s) k d) a.on (b.on k d lt);
    reaches = λ k d lt h. a.reaches k d lt (b.reaches k d lt h);
  }

  pub all_through : (p q : ℕ) → IsOnWithAll c p → TurnsOn c p q → IsOnWithAll c q
  all_through p q all on = on_with_all_through p q all on.on

  -- whether a candidate is on in a set is decidable
  pub on_told : (s : List ℕ) (p : ℕ) → Told (IsOn c s p)
  on_told s p = all_told (IsEnabledBy c s) (λ y. among_told (λ by. Enables c.map by y) (λ by. enables_told c.map by y) (names_in c s)) (names_at c p)
