-- From an absolute folder the way by the root leads wherever any way does. Ways that climb are tried in order.
use Rattle.std.proofs.Common.{Bor, ◌≡◌, ◌≢◌, ◌∙◌, ◌+◌, ◌-◌, ◌≤◌, ◌++◌, ◌==◌, ℕ, zero, suc, List, [], ◌∷◌, true, false, length, take, get_or, replicate, add-one, append-nil, append_assoc, ap, arith, codes, eqb, ne_eqb, inl, inr, refl, subst, sym, unwrap_or}
use Rattle.std.specs.Prelude.{◌||◌, All, MatchOption, Option, Some, None, if◌then◌else◌}
use Rattle.std.specs.Str.Pattern.{FindsCharPrefix, StripsPrefix}
use Rattle.std.specs.List.{flat_map, fold, join_by, onto_first, repeat, slice_split, ends_with}
use Rattle.std.proofs.lemmas.Bool.{cases_Bool, cases_lt}
use Rattle.std.proofs.lemmas.Bool.Decides.{Decides-eqb}
use Rattle.std.proofs.lemmas.List.Elements.{All-cons, All-head, All-nil, All-push, All-tail, All-take}
use Rattle.std.proofs.lemmas.List.Splits.{length-slice_split, slice_split-cons_no, slice_split-cons_yes, slice_split_at, slice_split_none}
use Rattle.std.proofs.lemmas.List.Sums.{count_by-le-length, fold-append}
use Rattle.std.proofs.lemmas.List.{length-append, length-take-le}
use Rattle.std.proofs.lemmas.Option.{slice_get-get_or}
use Rattle.std.proofs.lemmas.Slice.Eq.{starts_is, ends_is}
use Rattle.std.proofs.lemmas.Str.Pattern.{strip_prefix_char}
use Rattle.hack_base.specs.PathTexts.{is_dropped, is_rooted, is_slash, is_up, join_of, kept_of, one_up, with_part, with_slash, without_front, without_last}
use Rattle.hack_base.proofs.PathLemmas.{front-here, front-none}
use Rattle.hack_journal.specs.Internal.{NoneClimbs}
use Rattle.hack_journal.specs.Keeping.{IsWayless, climbing_way}
use Rattle.hack_journal.specs.Rows.{leads_to}

abbrev NoSlash : ℕ → Type 0
NoSlash b = is_slash b ≡ false

-- a part of a path has no slash
abbrev IsPart : List ℕ → Type 0
IsPart part = All NoSlash part

-- it stays in an absolute path
record IsKept (part : List ℕ) : Type 0 where
  whole : IsPart part
  stays : is_dropped part ≡ false
  down : is_up part ≡ false

-- ---- the parts of a text

onto : (x : ℕ) (parts : List (List ℕ)) → is_slash x ≡ false → All IsPart parts → All IsPart (onto_first x parts)
onto x [] f h = All-cons IsPart (x ∷ []) [] (All-cons NoSlash x [] f (All-nil NoSlash)) (All-nil IsPart)
onto x (p ∷ ps) f h = All-cons IsPart (x ∷ p) ps (All-cons NoSlash x p f (All-head IsPart p ps h)) (All-tail IsPart p ps h)

parts_of : (xs : List ℕ) → All IsPart (slice_split is_slash xs)
parts_of [] = All-cons IsPart [] [] (All-nil _) (All-nil IsPart)
parts_of (x ∷ xs) = elim (cases_Bool (is_slash x)) [
  | inl t ↦ subst (All IsPart) (sym (slice_split-cons_yes is_slash x xs t)) (All-cons IsPart [] (slice_split is_slash xs) (All-nil _) (parts_of xs))
  | inr f ↦ subst (All IsPart) (sym (slice_split-cons_no is_slash x xs f)) (onto x (slice_split is_slash xs) f (parts_of xs))
]

onto_before : (x : ℕ) (ps qs : List (List ℕ)) → ps ≢ [] → onto_first x (ps ++ qs) ≡ onto_first x ps ++ qs
onto_before x [] qs h = absurd (h refl)
onto_before x (p ∷ ps) qs h = refl

some_part : (xs : List ℕ) → slice_split is_slash xs ≢ []
some_part xs e = let n = length-slice_split is_slash xs in let none : length (slice_split is_slash xs) ≡ 0 = ap length e in absurd (omega (arith, n, none))

split_behind : (xs ys : List ℕ) → slice_split is_slash (xs ++ 47 ∷ ys) ≡ slice_split is_slash xs ++ slice_split is_slash ys
split_behind [] ys = slice_split-cons_yes is_slash 47 ys refl
split_behind (x ∷ xs) ys = elim (cases_Bool (is_slash x)) [
  | inl t ↦ slice_split-cons_yes is_slash x (xs ++ 47 ∷ ys) t ∙ ap (λ l. [] ∷ l) (split_behind xs ys) ∙ ap (λ l. l ++ slice_split is_slash ys) (sym (slice_split-cons_yes is_slash x xs t))
  | inr f ↦ slice_split-cons_no is_slash x (xs ++ 47 ∷ ys) f ∙ ap (onto_first x) (split_behind xs ys) ∙ onto_before x (slice_split is_slash xs) (slice_split is_slash ys) (some_part xs)
      ∙ ap (λ l. l ++ slice_split is_slash ys) (sym (slice_split-cons_no is_slash x xs f))
]

two_dots : IsPart (codes "..")
two_dots = All-cons NoSlash 46 (46 ∷ []) refl (All-cons NoSlash 46 [] refl (All-nil NoSlash))

split_ups : (n : ℕ) (path : List ℕ) → slice_split is_slash (repeat n (codes "../") ++ path) ≡ replicate n (codes "..") ++ slice_split is_slash path
split_ups zero path = refl
split_ups (suc n) path =
    ap (slice_split is_slash) (append_assoc (codes "../") (repeat n (codes "../")) path)
    ∙ slice_split_at is_slash (codes "..") 47 (repeat n (codes "../") ++ path) two_dots refl
    ∙ ap (λ l. codes ".." ∷ l) (split_ups n path)

split_join : (k : List ℕ) (ks : List (List ℕ)) → All IsKept (k ∷ ks) → slice_split is_slash (k ++ flat_map (λ y. codes "/" ++ y) ks) ≡ k ∷ ks
split_join k [] h = ap (slice_split is_slash) (append-nil k) ∙ slice_split_none is_slash k (All-head IsKept k [] h).whole
split_join k (y ∷ ys) h =
    slice_split_at is_slash k 47 (y ++ flat_map (λ z. codes "/" ++ z) ys) (All-head IsKept k (y ∷ ys) h).whole refl
    ∙ ap (λ l. k ∷ l) (split_join y ys (All-tail IsKept k (y ∷ ys) h))

-- ---- the parts that are kept at the root

up_one : (kept : List (List ℕ)) → All IsKept kept → one_up true kept ≡ Some (take (length kept - 1) kept)
up_one [] h = refl
up_one (k ∷ ks) h =
    let rest = take (length (k ∷ ks) - 1) (k ∷ ks) in
    let last = get_or (k ∷ ks) (length (k ∷ ks) - 1) k in
    let down : is_up last ≡ false = (h (length (k ∷ ks) - 1) k (omega arith)).down in
    ap (λ o. without_last true o rest) (slice_get-get_or (k ∷ ks) (length (k ∷ ks) - 1) k (omega arith)) ∙ ap (λ b. if b then None else Some rest) down

-- one part more
data Adds (kept : List (List ℕ)) (part : List ℕ) : Type 0 where
  drops : with_part true kept part ≡ kept → Adds kept part
  climbs : with_part true kept part ≡ take (length kept - 1) kept → Adds kept part
  pushes : with_part true kept part ≡ kept ++ part ∷ [] → IsKept part → Adds kept part

adds : (kept : List (List ℕ)) (part : List ℕ) → All IsKept kept → IsPart part → Adds kept part
adds kept part h whole =
    let pushed = kept ++ part ∷ [] in
    let other = if is_up part then unwrap_or (one_up true kept) pushed else pushed in
    elim (cases_Bool (is_dropped part)) [
      | inl t ↦ drops (ap (λ b. if b then kept else other) t)
      | inr f ↦ elim (cases_Bool (is_up part)) [
        | inl u ↦ climbs (ap (λ b. if b then kept else other) f ∙ ap (λ b. if b then unwrap_or (one_up true kept) pushed else pushed) u ∙ ap (λ o. unwrap_or o pushed) (up_one kept h))
        | inr d ↦ pushes (ap (λ b. if b then kept else other) f ∙ ap (λ b. if b then unwrap_or (one_up true kept) pushed else pushed) d) (record { whole = whole; stays = f; down = d })
      ]
    ]

part_kept : (kept : List (List ℕ)) (part : List ℕ) → All IsKept kept → Adds kept part → All IsKept (with_part true kept part)
part_kept kept part h (drops e) = subst (All IsKept) (sym e) h
part_kept kept part h (climbs e) = subst (All IsKept) (sym e) (All-take IsKept (length kept - 1) kept h)
part_kept kept part h (pushes e is) = subst (All IsKept) (sym e) (All-push IsKept kept part h is)

part_more : (kept : List (List ℕ)) (part : List ℕ) → Adds kept part → length (with_part true kept part) ≤ length kept + 1
part_more kept part (drops e) = omega (arith, ap length e)
part_more kept part (climbs e) = omega (arith, ap length e, length-take-le (length kept - 1) kept (omega arith))
part_more kept part (pushes e is) = omega (arith, ap length e, length-append kept (part ∷ []))

all_kept : (kept parts : List (List ℕ)) → All IsKept kept → All IsPart parts → All IsKept (fold (with_part true) kept parts)
all_kept kept [] h n = h
all_kept kept (p ∷ ps) h n = all_kept (with_part true kept p) ps (part_kept kept p h (adds kept p h (All-head IsPart p ps n))) (All-tail IsPart p ps n)

no_more : (kept parts : List (List ℕ)) → All IsKept kept → All IsPart parts → length (fold (with_part true) kept parts) ≤ length kept + length parts
no_more kept [] h n = omega arith
no_more kept (p ∷ ps) h n =
    let one = adds kept p h (All-head IsPart p ps n) in
    let first = part_more kept p one in
    let rest = no_more (with_part true kept p) ps (part_kept kept p h one) (All-tail IsPart p ps n) in
    omega (arith, first, rest)

-- what is kept already is kept again
kept_again : (kept more : List (List ℕ)) → All IsKept more → fold (with_part true) kept more ≡ kept ++ more
kept_again kept [] h = sym (append-nil kept)
kept_again kept (p ∷ ps) h =
    let is = All-head IsKept p ps h in
    let pushed = kept ++ p ∷ [] in
    let one : with_part true kept p ≡ pushed = ap (λ b. if b then kept else (if is_up p then unwrap_or (one_up true kept) pushed else pushed)) is.stays ∙ ap (λ b. if b then unwrap_or (one_up true kept) pushed else pushed) is.down in
    ap (λ l. fold (with_part true) l ps) one ∙ kept_again pushed ps (All-tail IsKept p ps h) ∙ append_assoc kept (p ∷ []) ps

joined_again : (kept : List (List ℕ)) → All IsKept kept → fold (with_part true) [] (slice_split is_slash (join_by (λ part. part) (codes "/") kept)) ≡ kept
joined_again [] h = refl
joined_again (k ∷ ks) h = ap (fold (with_part true) []) (split_join k ks h) ∙ kept_again [] (k ∷ ks) h

-- enough steps up lead to the root
to_root : (n : ℕ) (kept : List (List ℕ)) → All IsKept kept → length kept ≤ n → fold (with_part true) kept (replicate n (codes "..")) ≡ []
to_root zero [] h le = refl
to_root zero (k ∷ ks) h le = absurd (omega (arith, le))
to_root (suc n) kept h le =
    let up : with_part true kept (codes "..") ≡ take (length kept - 1) kept = ap (λ o. unwrap_or o (kept ++ codes ".." ∷ [])) (up_one kept h) in
    ap (λ l. fold (with_part true) l (replicate n (codes ".."))) up
    ∙ to_root n (take (length kept - 1) kept) (All-take IsKept (length kept - 1) kept h) (omega (arith, le, length-take-le (length kept - 1) kept (omega arith)))

-- ---- where ways lead

-- an absolute folder, and the slash behind it
record IsClosed (folder : List ℕ) : Type 0 where
  front : List ℕ
  behind : List ℕ
  ends : with_slash folder ≡ front ++ 47 ∷ []
  begins : with_slash folder ≡ 47 ∷ behind
  low : length front ≤ length folder

closed : (rest : List ℕ) → IsClosed (47 ∷ rest)
closed rest =
    let folder = 47 ∷ rest in
    let long : (length folder == 0) ≡ false = ne_eqb (length folder) 0 (λ none. absurd (omega (arith, none))) in
    let by : with_slash folder ≡ (if ends_with eqb folder (codes "/") then folder else folder ++ codes "/") = ap (λ b. if b || ends_with eqb folder (codes "/") then folder else folder ++ codes "/") long in
    elim (cases_Bool (ends_with eqb folder (codes "/"))) [
      | inl t ↦
          let front = take (length folder - length (codes "/")) folder in
          let e : folder ≡ front ++ 47 ∷ [] = (ends_is Decides-eqb folder (codes "/") _ refl).0 t in
          let own : with_slash folder ≡ folder = by ∙ ap (λ b. if b then folder else folder ++ codes "/") t in
          record { front = front; behind = rest; ends = own ∙ e; begins = own; low = omega (arith, ap length e, length-append front (47 ∷ [])) }
      | inr f ↦
          let more : with_slash folder ≡ folder ++ codes "/" = by ∙ ap (λ b. if b then folder else folder ++ codes "/") f in
          record { front = folder; behind = rest ++ codes "/"; ends = more; begins = more; low = omega arith }
    ]

-- the parts that are kept of a folder's front
abbrev kept_front : List ℕ → List (List ℕ)
kept_front front = fold (with_part true) [] (slice_split is_slash front)

abbrev rooted_at : List (List ℕ) → List ℕ
rooted_at kept = 47 ∷ join_by (λ part. part) (codes "/") kept

leads_at : (folder way : List ℕ) (c : IsClosed folder) → is_rooted way ≡ false → leads_to folder way ≡ rooted_at (fold (with_part true) (kept_front c.front) (slice_split is_slash way))
leads_at folder way c off =
    let text : join_of folder way ≡ c.front ++ 47 ∷ way = ap (λ b. if b then way else with_slash folder ++ way) off ∙ ap (λ l. l ++ way) c.ends ∙ append_assoc c.front (47 ∷ []) way in
    let root : is_rooted (join_of folder way) ≡ true = ap is_rooted (ap (λ b. if b then way else with_slash folder ++ way) off ∙ ap (λ l. l ++ way) c.begins) ∙ (starts_is Decides-eqb (47 ∷ (c.behind ++ way)) (codes "/") _ refl).1 (c.behind ++ way) refl in
    ap (λ b. (if b then codes "/" else []) ++ join_by (λ part. part) (codes "/") (kept_of b (slice_split is_slash (join_of folder way)))) root
    ∙ ap (λ p. rooted_at (fold (with_part true) [] (slice_split is_slash p))) text
    ∙ ap (λ ps. rooted_at (fold (with_part true) [] ps)) (split_behind c.front way)
    ∙ ap rooted_at (fold-append (with_part true) [] (slice_split is_slash c.front) (slice_split is_slash way))

-- up to the root, and then down
abbrev pub by_root : List ℕ → List ℕ → List ℕ
by_root folder path = repeat (length folder + 1) (codes "../") ++ path

leads_back : (folder : List ℕ) (kept : List (List ℕ)) → IsClosed folder → All IsKept kept → (is_rooted (by_root folder (rooted_at kept)) ≡ false) × (leads_to folder (by_root folder (rooted_at kept)) ≡ rooted_at kept)
leads_back folder kept c h =
    let n = suc (length folder) in
    let path = rooted_at kept in
    let same : by_root folder path ≡ repeat n (codes "../") ++ path = ap (λ k. repeat k (codes "../") ++ path) (add-one (length folder)) in
    let off : is_rooted (by_root folder path) ≡ false = ap is_rooted same in
    let first = kept_front c.front in
    let few = no_more [] (slice_split is_slash c.front) (All-nil IsKept) (parts_of c.front) in
    let parts = length-slice_split is_slash c.front in
    let bound = count_by-le-length is_slash c.front in
    let low : length first ≤ n = omega (arith, few, parts, bound, c.low) in (
      off,
      leads_at folder (by_root folder path) c off
          ∙ ap (λ p. rooted_at (fold (with_part true) first (slice_split is_slash p))) same
          ∙ ap (λ ps. rooted_at (fold (with_part true) first ps)) (split_ups n path)
          ∙ ap rooted_at (fold-append (with_part true) first (replicate n (codes "..")) (slice_split is_slash path))
          ∙ ap (λ l. rooted_at (fold (with_part true) l (slice_split is_slash path))) (to_root n first (all_kept [] (slice_split is_slash c.front) (All-nil IsKept) (parts_of c.front)) low)
          ∙ ap (λ ps. rooted_at (fold (with_part true) [] ps)) (slice_split-cons_yes is_slash 47 (join_by (λ part. part) (codes "/") kept) refl)
          ∙ ap rooted_at (joined_again kept h),
    )

-- where the way by the root doesn't lead to a path, none does
pub no_way : (folder path : List ℕ) → is_rooted folder ≡ true → ((is_rooted (by_root folder path) ≡ false) × (leads_to folder (by_root folder path) ≡ path) → ⊥) → (way : List ℕ) → is_rooted way ≡ false → leads_to folder way ≢ path
no_way folder path root fails way off leads =
    let start = (starts_is Decides-eqb folder (codes "/") _ refl).0 root in
    let c : IsClosed folder = subst IsClosed (sym start) (closed _) in
    let kept = fold (with_part true) (kept_front c.front) (slice_split is_slash way) in
    let at : rooted_at kept ≡ path = sym (leads_at folder way c off) ∙ leads in
    let all : All IsKept kept = all_kept (kept_front c.front) (slice_split is_slash way) (all_kept [] (slice_split is_slash c.front) (All-nil IsKept) (parts_of c.front)) (parts_of way) in
    fails (subst (λ (p : List ℕ). (is_rooted (by_root folder p) ≡ false) × (leads_to folder (by_root folder p) ≡ p)) at (leads_back folder kept c all))

-- ---- ways that climb

-- one step up more
pub one_more : (n : ℕ) (xs : List ℕ) → repeat n xs ++ xs ≡ repeat (suc n) xs
one_more zero xs = sym (append-nil xs)
one_more (suc n) xs = append_assoc xs (repeat n xs) xs ∙ ap (λ l. xs ++ l) (one_more n xs)

-- one way more was tried
pub climbs_more : (folder path : List ℕ) (n : ℕ) → NoneClimbs folder path n → (is_rooted (climbing_way n folder path) ≡ false → leads_to folder (climbing_way n folder path) ≢ path) → NoneClimbs folder path (n + 1)
climbs_more folder path n before this k lt off leads = elim (cases_lt k n) [
  | inl less ↦ before k less off leads
  | inr not ↦
      let is : k ≡ n = omega (arith, lt, not) in
      this (subst (λ (i : ℕ). is_rooted (climbing_way i folder path) ≡ false) is off) (subst (λ (i : ℕ). leads_to folder (climbing_way i folder path) ≡ path) is leads)
]

-- a path without the slash that it begins with
pub unrooted_is : (p : Bor (List ℕ)) (r : Option (Bor (List ℕ))) → MatchOption r (FindsCharPrefix 47 p.now None) (λ x. StripsPrefix (FindsCharPrefix 47) p.now x.now) → (unwrap_or r p).now ≡ without_front (codes "/") p.now
unrooted_is p None h = sym (front-none (codes "/") p.now (strip_prefix_char 47 p.now None h (omega arith)))
unrooted_is p (Some x) h = sym (front-here (codes "/") p.now x.now (strip_prefix_char 47 p.now (Some x) h (omega arith)))

-- where neither those ways nor the one by the root lead to a path, no way does
pub wayless : (folder path : List ℕ) → NoneClimbs folder path (length folder + 1) → ((is_rooted (by_root folder path) ≡ false) × (leads_to folder (by_root folder path) ≡ path) → ⊥) → IsWayless folder path
wayless folder path none far way off (inl root) = no_way folder path root far way off
wayless folder path none far way off (inr (k, le, is)) = λ leads.
    none k (omega (arith, le)) (ap is_rooted (sym is) ∙ off) (ap (leads_to folder) (sym is) ∙ leads)
