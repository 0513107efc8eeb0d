-- Where a text is split at the last occurrence of an ASCII character, and prefixes of texts.
use Rattle.std.proofs.Common.{◌≡◌, ◌≢◌, ℕ, ◌+◌, ◌-◌, ◌<◌, ◌≤◌, ◌==◌, List, [], ◌∷◌, ◌++◌, length, take, drop, get_or, arith, refl, ap, sym, ◌∙◌, append_assoc, length-drop, Option, Some, None, MatchOption, MatchBool, Bool, true, false, true≢false, inl, inr, not, eqb, eqb-true, ne_eqb, eq-eqb, codes, unwrap_or, Bor}
use Rattle.std.specs.Str.Pattern.{RFindsChar, SplitsAroundMatch, StripsPrefix, FindsCharPrefix, FindsCharSuffix, HasPrefixMatch}
use Rattle.std.specs.List.{before_last, after_last, suffix_len, starts_with, ends_with}
use Rattle.std.proofs.lemmas.Bool.{cases_Bool}
use Rattle.std.proofs.lemmas.Bool.Decides.{Decides-eqb}
use Rattle.std.proofs.lemmas.List.{get_or-drop, drop_at}
use Rattle.std.proofs.lemmas.List.Sums.{suffix_len_is}
use Rattle.std.proofs.lemmas.Slice.Eq.{starts_is, ends_is}
use Rattle.std.proofs.lemmas.Str.Pattern.{NoCharPasses-char, drop_at_char, strip_prefix_char, ends_char}
use Rattle.std.proofs.lemmas.Str.{len_utf8_ascii}
use Rattle.hack_base.specs.PathTexts.{or_if_empty, without_front, under_of, is_rooted, join_of, parent_of}

module _ (c : ℕ) (low : c < 128) (bs : List ℕ) where
  -- no byte from n on is the character, and the one before n is
  cut_at : (n : ℕ) → n ≤ length bs → ((k : ℕ) → n ≤ k → k < length bs → get_or bs k 0 ≢ c) → ((k : ℕ) → n ≡ k + 1 → get_or bs k 0 ≡ c)
      → (after_last (λ b. b == c) bs ≡ drop n bs) × (before_last (λ b. b == c) bs ≡ take (n - 1) bs)
  cut_at n le others here =
      let e : suffix_len (λ b. not (eqb b c)) bs ≡ length bs - n = suffix_len_is (λ b. not (eqb b c)) bs n 0 le (λ k a l. ap not (ne_eqb _ c (others k a l))) (λ l. ap not (eq-eqb _ c (here (n - 1) (omega arith)))) in
      let behind : length bs - suffix_len (λ b. not (eqb b c)) bs ≡ n = omega (arith, e) in
      let front : length bs - suffix_len (λ b. not (eqb b c)) bs - 1 ≡ n - 1 = omega (arith, e) in
      (ap (λ k. drop k bs) behind, ap (λ k. take k bs) front)

  -- the parts that `rsplit_once` gives
  pub split_last : (r : Option (Bor (List ℕ) × Bor (List ℕ))) → MatchOption r (RFindsChar c bs None) (λ x. SplitsAroundMatch (RFindsChar c) bs x.0.now x.1.now)
      → MatchOption r ((after_last (λ b. b == c) bs ≡ bs) × (before_last (λ b. b == c) bs ≡ [])) (λ x. (x.1.now ≡ after_last (λ b. b == c) bs) × (x.0.now ≡ before_last (λ b. b == c) bs))
  split_last None h = cut_at 0 (omega arith) (λ k _ l. NoCharPasses-char c bs k h low l) (λ k e. absurd (omega arith))
  split_last (Some x) h =
      let i = h.0 in
      let j = h.1 in
      let at = h.2.1 in
      let next : j ≡ i + 1 = omega (arith, at.ends, len_utf8_ascii c low) in
      let cut = cut_at (i + 1) (omega arith)
      (λ k a l e.
      let back : j + (k - j) ≡ k = omega arith in
      NoCharPasses-char c (drop j bs) (k - j) h.2.0 low (omega (arith, length-drop j bs)) (get_or-drop j bs (k - j) 0 ∙ ap (λ n. get_or bs n 0) back ∙ e))
      (λ k e. let same : k ≡ i = omega (arith, e) in ap (λ n. get_or bs n 0) same ∙ at.byte low) in
      let less : i + 1 - 1 ≡ i = omega arith in
      (h.4 ∙ ap (λ k. drop k bs) next ∙ sym cut.0, h.3 ∙ ap (λ k. take k bs) (sym less) ∙ sym cut.1)

-- a text that is a prefix
pub front-here : (front p rest : List ℕ) → p ≡ front ++ rest → without_front front p ≡ rest
front-here front p rest e =
    let t : starts_with eqb p front ≡ true = (starts_is Decides-eqb p front _ refl).1 rest e in
    rw t (ap (drop (length front)) e ∙ drop_at front rest (length front) refl)

-- a text that isn't
pub front-none : (front p : List ℕ) → ((rest : List ℕ) → p ≢ front ++ rest) → without_front front p ≡ p
front-none front p h =
    elim (cases_Bool (starts_with eqb p front)) as (λ _. without_front front p ≡ p) [
      | inl t ↦ absurd (h (drop (length front) p) ((starts_is Decides-eqb p front _ refl).0 t))
      | inr f ↦ rw f refl
    ]

-- a folder and a slash as a prefix
pub under-is : (p dir : List ℕ) → (length dir == 0) ≡ false → under_of p dir ≡ without_front (dir ++ codes "/") p
under-is p [] e = absurd (true≢false e)
under-is p (b ∷ bs) e = refl

pub or-first : (a b : List ℕ) → (length a == 0) ≡ false → or_if_empty a b ≡ a
or-first [] b e = absurd (true≢false e)
or-first (x ∷ xs) b e = refl

pub or-second : (a b : List ℕ) → (length a == 0) ≡ true → or_if_empty a b ≡ b
or-second [] b e = refl
or-second (x ∷ xs) b e = absurd (omega (arith, eqb-true _ _ e))

-- a path that begins with a folder, by what comes after it
pub behind_folder : (p : Bor (List ℕ)) (dir rest : List ℕ) (r : Option (Bor (List ℕ))) → p.now ≡ dir ++ rest → MatchOption r (FindsCharPrefix 47 rest None) (λ x. StripsPrefix (FindsCharPrefix 47) rest x.now)
    → (unwrap_or r p).now ≡ without_front (dir ++ codes "/") p.now
behind_folder p dir rest None e h =
    sym (front-none (dir ++ codes "/") p.now (λ t f.
    let both : dir ++ rest ≡ dir ++ (47 ∷ t) = sym e ∙ f ∙ append_assoc dir (47 ∷ []) t in
    strip_prefix_char 47 rest None h (omega arith) t (sym (drop_at dir rest (length dir) refl) ∙ ap (drop (length dir)) both ∙ drop_at dir (47 ∷ t) (length dir) refl)))
behind_folder p dir rest (Some x) e h =
    sym (front-here (dir ++ codes "/") p.now x.now (e ∙ ap (λ l. dir ++ l) (strip_prefix_char 47 rest (Some x) h (omega arith)) ∙ sym (append_assoc dir (47 ∷ []) x.now)))

-- a path that does not begin with a folder
pub not_in_folder : (p dir : List ℕ) → ((rest : List ℕ) → p ≢ dir ++ rest) → without_front (dir ++ codes "/") p ≡ p
not_in_folder p dir h = front-none (dir ++ codes "/") p (λ t f. h (47 ∷ t) (f ∙ append_assoc dir (47 ∷ []) t))

-- a path that begins with a slash
rooted : (p rest : List ℕ) → p ≡ 47 ∷ rest → is_rooted p ≡ true
rooted p rest e = (starts_is Decides-eqb p (codes "/") _ refl).1 rest e

-- one that does not
not-rooted : (p : List ℕ) → ((rest : List ℕ) → p ≢ 47 ∷ rest) → is_rooted p ≡ false
not-rooted p h =
    elim (cases_Bool (is_rooted p)) as (λ _. is_rooted p ≡ false) [
      | inl t ↦ absurd (h _ ((starts_is Decides-eqb p (codes "/") _ refl).0 t))
      | inr f ↦ f
    ]

-- what `starts_with` returns for a slash
pub rooted-is : (p : List ℕ) (r : Bool) → MatchBool r (HasPrefixMatch (FindsCharPrefix 47) p) (FindsCharPrefix 47 p None) → r ≡ is_rooted p
rooted-is p true h = sym (rooted p (drop h.0 p) (drop_at_char 47 p 0 h.0 h.1 (omega arith)))
rooted-is p false h = sym (not-rooted p (strip_prefix_char 47 p None h (omega arith)))

-- a folder that does not end with a slash
not-closed : (dir : List ℕ) → ((front : List ℕ) → dir ≢ front ++ 47 ∷ []) → ends_with eqb dir (codes "/") ≡ false
not-closed dir h =
    elim (cases_Bool (ends_with eqb dir (codes "/"))) as (λ _. ends_with eqb dir (codes "/") ≡ false) [
      | inl t ↦ absurd (h _ ((ends_is Decides-eqb dir (codes "/") _ refl).0 t))
      | inr f ↦ f
    ]

-- a folder to which a slash is added
pub join-slash : (dir p : List ℕ) → (length dir == 0) ≡ false → FindsCharSuffix 47 dir None → FindsCharPrefix 47 p None → dir ++ (47 ∷ p) ≡ join_of dir p
join-slash dir p e d h =
    let closed = not-closed dir (λ front e. true≢false (sym ((ends_char 47 dir false d (omega arith)).1 front e))) in
    rw (not-rooted p (strip_prefix_char 47 p None h (omega arith))) (rw e (rw closed (sym (append_assoc dir (47 ∷ []) p))))

-- the folder of a path whose only slash is its first byte
pub parent-first : (p : List ℕ) (x : Bor (List ℕ) × Bor (List ℕ)) → SplitsAroundMatch (RFindsChar 47) p x.0.now x.1.now → (length x.0.now == 0) ≡ true → codes "/" ≡ parent_of p
parent-first p x h e =
    let cut = split_last 47 (omega arith) p (Some x) h in
    let none : h.0 ≡ 0 = omega (arith, eqb-true _ _ e, h.6) in
    let first : p ≡ 47 ∷ drop h.1 p = ap (λ k. drop k p) (sym none) ∙ drop_at_char 47 p h.0 h.1 h.2.1 (omega arith) in
    rw (rooted p (drop h.1 p) first) (sym (or-second x.0.now (codes "/") e) ∙ ap (λ front. or_if_empty front (codes "/")) cut.1)

-- the folder of a path without slashes
pub parent-none : (p : List ℕ) → RFindsChar 47 p None → [] ≡ parent_of p
parent-none p h =
    let cut = split_last 47 (omega arith) p None h in
    let never : (rest : List ℕ) → p ≢ 47 ∷ rest = λ rest e. NoCharPasses-char 47 p 0 h (omega arith) (omega (arith, ap length e)) (ap (λ l. get_or l 0 0) e) in
    rw (not-rooted p never) (ap (λ front. or_if_empty front []) (sym cut.1))
