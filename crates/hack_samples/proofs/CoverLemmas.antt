-- Lemmas on patterns that descend, and on the sets that cover them.
use Rattle.std.proofs.Common.{◌≡◌, ℕ, suc, ◌+◌, ◌-◌, ◌<◌, ◌≤◌, List, [], ◌∷◌, ◌++◌, length, sym, ◌∙◌, ap, subst, arith, Bool, true, false, inl, inr, append_assoc, append-nil}
use Rattle.std.proofs.lemmas.List.{get_or_past}
use Rattle.std.proofs.lemmas.List.Elements.{All-cons, All-head, All-tail, All-nil}
use Rattle.std.proofs.lemmas.Bool.{cases_lt}
use Rattle.hack_samples.specs.Sets.{has_each, is_on}
use Rattle.hack_samples.specs.Samples.{Shows, SomeShows, ShowEachPattern}
use Rattle.hack_samples.specs.InternalDescendingPatterns.{IsPossible, Descends, CoversBelow, AreKept}
use Rattle.hack_samples.specs.declared.sets.Setting.{Setting}
use Rattle.hack_samples.proofs.SetLemmas.{told}
use Rattle.hack_samples.proofs.OrderLemmas.{three}
use Rattle.hack_samples.proofs.SampleLemmas.{some-kept}

module _ (may : List Bool → Bool) (n : ℕ) (required : List (List ℕ)) (providers : List (List (List ℕ))) where
  pub covers-all : (pattern : List Setting) (limit more : ℕ) (sets : List (List Bool)) → SomeShows providers pattern sets
      → ((x : Setting) → x.candidate < limit → 0 < more → CoversBelow may n required providers (pattern ++ x ∷ []) x.candidate (more - 1) sets) → CoversBelow may n required providers pattern limit more sets
  covers-all pattern limit more sets here each [] descends few possible = subst (λ p. SomeShows providers p sets) (sym (append-nil pattern)) here
  covers-all pattern limit more sets here each (x ∷ rest) descends few possible =
      subst (λ p. SomeShows providers p sets) (append_assoc pattern (x ∷ []) rest)
      (each x descends.0 (omega arith) rest descends.1 (omega arith) (subst (IsPossible may n required providers) (sym (append_assoc pattern (x ∷ []) rest)) possible))

  pub covers-kept : (pattern : List Setting) (limit more : ℕ) (sets later : List (List Bool)) → AreKept sets later → CoversBelow may n required providers pattern limit more sets → CoversBelow may n required providers pattern limit more later
  covers-kept pattern limit more sets later kept covers = λ rest descends few possible. some-kept providers (pattern ++ rest) sets later kept (covers rest descends few possible)

  -- patterns that continue by one more candidate, on or off
  pub covers-step : (pattern : List Setting) (candidate more : ℕ) (sets : List (List Bool))
      → ((x : Setting) → x.candidate < candidate → CoversBelow may n required providers (pattern ++ x ∷ []) x.candidate more sets)
      → CoversBelow may n required providers (pattern ++ record { candidate = candidate; on = true } ∷ []) candidate more sets
      → CoversBelow may n required providers (pattern ++ record { candidate = candidate; on = false } ∷ []) candidate more sets
      → (x : Setting) → x.candidate < candidate + 1 → CoversBelow may n required providers (pattern ++ x ∷ []) x.candidate more sets
  covers-step pattern candidate more sets before on off x lt =
      let at : ℕ → Bool → Type 0 = λ f b. CoversBelow may n required providers (pattern ++ record { candidate = f; on = b } ∷ []) f more sets in
      elim (three x.candidate candidate) [
        | inl less ↦ before x less
        | inr w ↦ elim w [
          | inr more' ↦ absurd (omega arith)
          | inl same ↦
              elim (told x.on) [
                | inl yes' ↦ subst (λ b. at x.candidate b) (sym yes') (subst (λ f. at f true) (sym same) on)
                | inr no' ↦ subst (λ b. at x.candidate b) (sym no') (subst (λ f. at f false) (sym same) off)
              ]
        ]
      ]

-- a pattern with one more setting, in descending order
record Inserted (providers : List (List (List ℕ))) (s : List Bool) (x : Setting) (limit : ℕ) (rest : List Setting) : Type 0 where
  all : List Setting
  descends : Descends limit all
  few : length all ≤ suc (length rest)
  shows : Shows providers all s
  tells : (t : List Bool) → Shows providers all t → (is_on providers t x.candidate ≡ x.on) × Shows providers rest t

inserted : (providers : List (List (List ℕ))) (s : List Bool) (x : Setting) (limit : ℕ) (rest : List Setting) → x.candidate < limit → Descends limit rest → is_on providers s x.candidate ≡ x.on → Shows providers rest s → Inserted providers s x limit rest
inserted providers s x limit [] lt descends on shows = record {
  all = x ∷ [];
  descends = (lt, tt);
  few = omega arith;
  shows = All-cons (λ y. is_on providers s y.candidate ≡ y.on) x [] on shows;
  tells = λ t h. (All-head (λ y. is_on providers t y.candidate ≡ y.on) x [] h, All-nil (λ y. is_on providers t y.candidate ≡ y.on));
}
inserted providers s x limit (y ∷ rest) lt descends on shows =
    let S : Setting → Type 0 = λ z. is_on providers s z.candidate ≡ z.on in
    elim (three x.candidate y.candidate) [
      | inl less ↦
          let more = inserted providers s x y.candidate rest less descends.1 on (All-tail S y rest shows) in
          record {
            all = y ∷ more.all;
            descends = (descends.0, more.descends);
            few = let few : length more.all ≤ suc (length rest) = more.few in omega arith;
            shows = All-cons S y more.all (All-head S y rest shows) more.shows;
            tells = λ t h.
                let T : Setting → Type 0 = λ z. is_on providers t z.candidate ≡ z.on in
                let both = more.tells t (All-tail T y more.all h) in
                (both.0, All-cons T y rest (All-head T y more.all h) both.1);
          }
      | inr w ↦ elim w [
        | inl same ↦ record {
          all = y ∷ rest;
          descends = descends;
          few = omega arith;
          shows = shows;
          tells = λ t h.
              let T : Setting → Type 0 = λ z. is_on providers t z.candidate ≡ z.on in (
                ap (is_on providers t) same ∙ All-head T y rest h ∙ sym (All-head S y rest shows) ∙ ap (is_on providers s) (sym same) ∙ on,
                h,
              );
        }
        | inr more ↦ record {
          all = x ∷ y ∷ rest;
          descends = (lt, (more, descends.1));
          few = omega arith;
          shows = All-cons S x (y ∷ rest) on shows;
          tells = λ t h. let T : Setting → Type 0 = λ z. is_on providers t z.candidate ≡ z.on in (All-head T x (y ∷ rest) h, All-tail T x (y ∷ rest) h);
        }
      ]
    ]

-- past the last candidate all are on
on-past : (providers : List (List (List ℕ))) (s : List Bool) (f : ℕ) → length providers ≤ f → is_on providers s f ≡ true
on-past providers s f le = ap (has_each s) (get_or_past providers f [] le)

-- a pattern in descending order
pub record Sorted (providers : List (List (List ℕ))) (s : List Bool) (pattern : List Setting) : Type 0 where
  pub all : List Setting
  pub descends : Descends (length providers) all
  pub few : length all ≤ length pattern
  pub shows : Shows providers all s
  pub tells : (t : List Bool) → Shows providers all t → Shows providers pattern t

pub sorted : (providers : List (List (List ℕ))) (s : List Bool) (pattern : List Setting) → Shows providers pattern s → Sorted providers s pattern
sorted providers s [] shows = record { all = []; descends = tt; few = omega arith; shows = shows; tells = λ t h. h }
sorted providers s (x ∷ pattern) shows =
    let S : Setting → Type 0 = λ z. is_on providers s z.candidate ≡ z.on in
    let before = sorted providers s pattern (All-tail S x pattern shows) in
    let few : length before.all ≤ length pattern = before.few in
    let on : is_on providers s x.candidate ≡ x.on = All-head S x pattern shows in
    elim (cases_lt x.candidate (length providers)) [
      | inl lt ↦
          let more = inserted providers s x (length providers) before.all lt before.descends on before.shows in
          record {
            all = more.all;
            descends = more.descends;
            few = let few' : length more.all ≤ suc (length before.all) = more.few in omega arith;
            shows = more.shows;
            tells = λ t h. let both = more.tells t h in All-cons (λ z. is_on providers t z.candidate ≡ z.on) x pattern both.0 (before.tells t both.1);
          }
      | inr past ↦ record {
        all = before.all;
        descends = before.descends;
        few = omega arith;
        shows = before.shows;
        tells = λ t h. All-cons (λ z. is_on providers t z.candidate ≡ z.on) x pattern (on-past providers t x.candidate past ∙ sym (on-past providers s x.candidate past) ∙ on) (before.tells t h);
      }
    ]

-- what is covered in descending order is covered
pub covers-whole : (may : List Bool → Bool) (n : ℕ) (required : List (List ℕ)) (providers : List (List (List ℕ))) (most : ℕ) (sets : List (List Bool)) → CoversBelow may n required providers [] (length providers) most sets → ShowEachPattern may n required providers most sets
covers-whole may n required providers most sets covers = λ pattern few s listed shows.
    let order = sorted providers s pattern shows in
    let few' : length order.all ≤ length pattern = order.few in
    let found = covers order.all order.descends (omega arith) (record { by = s; listed = listed; shows = order.shows }) in
    record { by = found.by; chosen = found.chosen; shows = order.tells found.by found.shows }
