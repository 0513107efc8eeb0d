-- What loops that make rows have made after one more turn.
use Rattle.std.proofs.Common.{◌≡◌, ◌≢◌, ℕ, zero, suc, ◌<◌, ◌≤◌, ◌+◌, List, [], ◌∷◌, ◌++◌, take, length, get_or, set, refl, sym, ap, ◌∙◌, subst, arith, Bool, true, false, cond, inl, inr, ◌↔◌, All, Contains, IsTrue, add-one, length-append}
use Rattle.std.specs.Prelude.{Vec}
use Rattle.std.proofs.lemmas.Bool.{false≢true, cases_eq, cases_lt}
use Rattle.std.proofs.lemmas.List.{map-append, get_or-set_same, get_or-set_other, get_or_push}
use Rattle.std.proofs.Math.ListN.{get_or-append}
use Rattle.std.proofs.lemmas.List.Elements.{All-push, Contains-push, Contains-append_left}
use Rattle.hack_base.proofs.Members.{lt_or_same}
use Rattle.hack_base.proofs.Steps.{row-pushed}
use Rattle.hack_conflicts.specs.Sets.{Has, mark, rows_of, IsWithin}
use Rattle.hack_conflicts.specs.Rules.{IsPreorder, IsClosed, enables}
use Rattle.hack_conflicts.specs.declared.rules.Rules.{Rules as SearchRules}
use Rattle.hack_features.specs.Rules.{Choice}
use Rattle.hack_closures.specs.Closures.{IsTop, candidate_at}
use Rattle.hack_closures.specs.Internal.{candidates_of, IsPair, AreGreatest, AreTurnedOn, AreAllTurnedOn, AreOnWithAll, AreEnabledRows}
use Rattle.hack_closures.proofs.MemberLemmas.{has_below}

-- one more mark, and one more row

pub mark_pushed : (Q : ℕ → Type 0) (row : List Bool) (n : ℕ) (b : Bool) → length row ≡ n → ((y : ℕ) → y < n → IsTrue (get_or row y false) ↔ Q y) → IsTrue b ↔ Q n → (y : ℕ) → y < n + 1 → IsTrue (get_or (row ++ b ∷ []) y false) ↔ Q y
mark_pushed Q row n b len h new = row-pushed (λ y b. IsTrue b ↔ Q y) row n b false len h new

pub rows_push : {Z : Type 0} (rows : List (Vec Bool Z)) (row : Vec Bool Z) → rows_of (rows ++ row ∷ []) ≡ rows_of rows ++ row.items ∷ []
rows_push rows row = map-append (λ v. v.items) rows (row ∷ [])

pub row_pushed : {Z : Type 0} (Q : ℕ → List Bool → Type 0) (rows : List (Vec Bool Z)) (n : ℕ) (row : Vec Bool Z) → length (rows_of rows) ≡ n → ((x : ℕ) → x < n → Q x (get_or (rows_of rows) x [])) → Q n row.items → (x : ℕ) → x < n + 1 → Q x (get_or (rows_of (rows ++ row ∷ [])) x [])
row_pushed Q rows n row len h new x lt = subst (λ l. Q x (get_or l x [])) (sym (rows_push rows row)) (row-pushed Q (rows_of rows) n row.items [] len h new x lt)

pub length_pushed : {Z : Type 0} (rows : List (Vec Bool Z)) (row : Vec Bool Z) (n : ℕ) → length (rows_of rows) ≡ n → length (rows_of (rows ++ row ∷ [])) ≡ n + 1
length_pushed rows row n e = ap length (rows_push rows row) ∙ length-append (rows_of rows) (row.items ∷ []) ∙ ap (λ k. k + 1) e

-- one more candidate of a set

pub candidates_more : (alone : List ℕ) (s : List Bool) (x : ℕ) → x < length alone → candidates_of (take (suc x) alone) s ≡ candidates_of (take x alone) s ++ cond (mark s x) (get_or alone x 0 ∷ []) []
candidates_more [] s x lt = absurd (omega arith)
candidates_more (a ∷ alone) [] zero lt = refl
candidates_more (a ∷ alone) [] (suc x) lt = refl
candidates_more (a ∷ alone) (true ∷ s) zero lt = refl
candidates_more (a ∷ alone) (false ∷ s) zero lt = refl
candidates_more (a ∷ alone) (true ∷ s) (suc x) lt = ap (λ l. a ∷ l) (candidates_more alone s x (omega arith))
candidates_more (a ∷ alone) (false ∷ s) (suc x) lt = candidates_more alone s x (omega arith)

pub candidates_hit : (alone : List ℕ) (s : List Bool) (x a : ℕ) → x < length alone → a ≡ get_or alone x 0 → mark s x ≡ true → candidates_of (take (x + 1) alone) s ≡ candidates_of (take x alone) s ++ a ∷ []
candidates_hit alone s x a lt is e =
    ap (λ k. candidates_of (take k alone) s) (add-one x) ∙ candidates_more alone s x lt ∙ ap (λ b. candidates_of (take x alone) s ++ cond b (get_or alone x 0 ∷ []) []) e
    ∙ ap (λ v. candidates_of (take x alone) s ++ v ∷ []) (sym is)

pub candidates_missed : (alone : List ℕ) (s : List Bool) (x : ℕ) → x < length alone → mark s x ≡ false → candidates_of (take (x + 1) alone) s ≡ candidates_of (take x alone) s
candidates_missed alone s x lt e =
    ap (λ k. candidates_of (take k alone) s) (add-one x) ∙ candidates_more alone s x lt ∙ ap (λ b. candidates_of (take x alone) s ++ cond b (get_or alone x 0 ∷ []) []) e
    ∙ append_none (candidates_of (take x alone) s)
  where
    append_none : (l : List ℕ) → l ++ [] ≡ l
    append_none [] = refl
    append_none (y ∷ l) = ap (λ t. y ∷ t) (append_none l)

-- a member taken out

pub unset_from : (s : List Bool) (p q : ℕ) → p < length s → Has (set s p false) q → (q ≢ p) × Has s q
unset_from s p q lt h = elim (cases_eq q p) [
  | inl e ↦ absurd (false≢true (sym (ap (λ k. get_or (set s p false) k false) e ∙ get_or-set_same s p false false lt) ∙ h))
  | inr ne ↦ (ne, sym (get_or-set_other s p q false false ne) ∙ h)
]

pub unset_to : (s : List Bool) (p q : ℕ) → q ≢ p → Has s q → Has (set s p false) q
unset_to s p q ne h = get_or-set_other s p q false false ne ∙ h

-- what is left of a set after the turns of the pass over the positions from a place on: the top positions
-- among these, and all below
pub record Left (r : SearchRules) (s left : List Bool) (place : ℕ) : Type 0 where
  pub within : IsWithin left s
  pub below : (x : ℕ) → x < place → Has s x → Has left x
  pub above : IsClosed r s → (x : ℕ) → Has s x → (z : ℕ) × Has left z × IsTrue (enables r z x)
  pub apart : (x y : ℕ) → place ≤ x → Has left x → Has left y → IsTrue (enables r y x) → y ≡ x
  pub kept : (x : ℕ) → IsTop r s x → Has left x
  pub tops : IsClosed r s → (x : ℕ) → place ≤ x → Has left x → IsTop r s x

past_end : (s : List Bool) (place x : ℕ) → length s ≤ place → place ≤ x → ¬ Has s x
past_end s place x all le has = let lt = has_below s x has in omega arith

-- before the first turn
pub left_first : (r : SearchRules) (s : List Bool) (place : ℕ) → IsPreorder r → length s ≤ place → Left r s s place
left_first r s place up all = record {
  within = λ p has. has;
  below = λ x lt has. has;
  above = λ whole x has. (x, has, up.reflexive x (whole.below x has));
  apart = λ x y le hx hy e. absurd (past_end s place x all le hx);
  kept = λ x top. top.member;
  tops = λ whole x le has. absurd (past_end s place x all le has);
}

-- another position that is left enables the one at the place, which is taken out
pub left_out : (r : SearchRules) (s left : List Bool) (place : ℕ) → IsPreorder r → place < length left → Left r s left (place + 1) → (y : ℕ) × (y ≢ place) × Has left y × IsTrue (enables r y place) → Left r s (set left place false) place
left_out r s left place up lt h w = record {
  within = λ p has. h.within p (unset_from left place p lt has).1;
  below = λ x l has. unset_to left place x (λ e. let same : x ≡ place = e in omega arith) (h.below x (omega arith) has);
  above = λ whole x has.
      let z = h.above whole x has in
      elim (cases_eq z.0 place) [
        | inl e ↦ (w.0, unset_to left place w.0 w.1 w.2, up.transitive w.0 place x w.3 (subst (λ v. IsTrue (enables r v x)) e z.2))
        | inr ne ↦ (z.0, unset_to left place z.0 ne z.1, z.2)
      ];
  apart = λ x y le hx hy e.
      let a = unset_from left place x lt hx in
      let b = unset_from left place y lt hy in
      let other : x ≢ place = a.0 in
      h.apart x y (omega arith) a.1 b.1 e;
  kept = λ x top. unset_to left place x (λ e. no_top (subst (IsTop r s) e top)) (h.kept x top);
  tops = λ whole x le hx.
      let a = unset_from left place x lt hx in
      let other : x ≢ place = a.0 in
      h.tops whole x (omega arith) a.1;
}
  where
    -- what enables a top position is greater, and was left since nothing else enables it
    no_top : ¬ IsTop r s place
    no_top top =
        let both = top.others w.0 (h.within w.0 w.2) w.1 w.3 in
        let more : place < w.0 = both.0 in
        w.1 (sym (h.apart w.0 place (omega arith) w.2 (h.kept place top) both.1))

-- no other position that is left enables the one at the place, which stays
pub left_kept : (r : SearchRules) (s left : List Bool) (place : ℕ) → IsPreorder r → Left r s left (place + 1) → ((y : ℕ) → Has left y → IsTrue (enables r y place) → y ≡ place) → Left r s left place
left_kept r s left place up h alone = record {
  within = h.within;
  below = λ x lt has. h.below x (omega arith) has;
  above = h.above;
  apart = λ x y le hx hy e. elim (cases_eq x place) [
    | inl same ↦ alone y hy (subst (λ v. IsTrue (enables r y v)) same e) ∙ sym same
    | inr ne ↦ let other : x ≢ place = ne in h.apart x y (omega arith) hx hy e
  ];
  kept = h.kept;
  tops = λ whole x le hx. elim (cases_eq x place) [
    | inl same ↦ subst (IsTop r s) (sym same) (top whole (subst (Has left) same hx))
    | inr ne ↦ let other : x ≢ place = ne in h.tops whole x (omega arith) hx
  ];
}
  where
    -- what enables it is greater, and enabled by one that is left, which enables both and so is this one
    top : IsClosed r s → Has left place → IsTop r s place
    top whole has = record {
      member = h.within place has;
      others = λ y hy ne e. elim (cases_lt y place) [
        | inl lt ↦ absurd (ne (alone y (h.below y (omega arith) hy) e))
        | inr le ↦
            let other : y ≢ place = ne in
            let z = h.above whole y hy in
            let same : z.0 ≡ place = alone z.0 z.1 (up.transitive z.0 y place z.2 e) in
            (omega arith, subst (λ v. IsTrue (enables r v y)) same z.2)
      ];
    }

-- after the last turn
pub left_last : (r : SearchRules) (s left : List Bool) (place : ℕ) → place ≡ 0 → Left r s left place → IsClosed r s → AreGreatest r s left
left_last r s left place end h whole = record {
  within = h.within;
  above = h.above whole;
  apart = λ x y. h.apart x y (omega arith);
  tops = λ x. (h.tops whole x (omega arith), h.kept x);
}

-- pairs

abbrev pub OnlyPairs : List Bool → ℕ → List (List Bool) → Type 0
OnlyPairs marks last rows = All (λ row. (x : ℕ) × (x < last) × (¬ Has marks x) × IsPair x last row) rows

abbrev pub EachPair : List Bool → ℕ → ℕ → List (List Bool) → Type 0
EachPair marks last n rows = (x : ℕ) → x < n → ¬ Has marks x → (row : List Bool) × Contains rows row × IsPair x last row

pub pair_only : (marks : List Bool) (last x : ℕ) (rows : List (List Bool)) (row : List Bool) → OnlyPairs marks last rows → x < last → mark marks x ≡ false → IsPair x last row → OnlyPairs marks last (rows ++ row ∷ [])
pair_only marks last x rows row h lt e is = All-push (λ row. (x : ℕ) × (x < last) × (¬ Has marks x) × IsPair x last row) rows row h (x, lt, (λ t. false≢true (sym e ∙ t)), is)

pub pair_each : (marks : List Bool) (last x : ℕ) (rows : List (List Bool)) (row : List Bool) → EachPair marks last x rows → IsPair x last row → EachPair marks last (x + 1) (rows ++ row ∷ [])
pair_each marks last x rows row h is y lt un = elim (lt_or_same y x lt) [
  | inl l ↦ let w = h y l un in (w.0, Contains-append_left rows (row ∷ []) w.0 w.1, w.2)
  | inr e ↦ (row, Contains-push rows row, subst (λ z. IsPair z last row) (sym e) is)
]

pub pair_skipped : (marks : List Bool) (last x : ℕ) (rows : List (List Bool)) → EachPair marks last x rows → mark marks x ≡ true → EachPair marks last (x + 1) rows
pair_skipped marks last x rows h e y lt un = elim (lt_or_same y x lt) [
  | inl l ↦ h y l un
  | inr s ↦ absurd (un (ap (mark marks) s ∙ e))
]

-- all rows of what positions enable

pub enabled_plain : (c : Choice) (alone : List ℕ) (all : Bool) (rows : List (List Bool)) → all ≡ false → AreAllTurnedOn c alone rows → AreEnabledRows c alone all rows
enabled_plain c alone all rows e h = record {
  count = h.count ∙ (let z : length alone ≡ length alone + 0 = omega arith in z) ∙ ap (λ b. length alone + cond b 1 0) (sym e);
  candidates = h.each;
  last = λ is. absurd (false≢true (sym e ∙ is));
}

pub enabled_last : (c : Choice) (alone : List ℕ) (all : Bool) (rows : List (List Bool)) (row : List Bool) → all ≡ true → AreAllTurnedOn c alone rows → AreOnWithAll c alone row → AreEnabledRows c alone all (rows ++ row ∷ [])
enabled_last c alone all rows row e h last = record {
  count = length-append rows (row ∷ []) ∙ ap (λ n. n + 1) h.count ∙ ap (λ b. length alone + cond b 1 0) (sym e);
  candidates = λ x lt. subst (AreTurnedOn c alone (candidate_at alone x)) (sym (get_or-append rows (row ∷ []) [] x (let n = h.count in omega arith))) (h.each x lt);
  last = λ is. subst (AreOnWithAll c alone) (sym (get_or_push rows row [] (length alone) h.count)) last;
}
