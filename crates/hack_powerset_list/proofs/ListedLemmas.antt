-- The listed sets of a walk, one position more at a time.
use Rattle.std.proofs.Common.{◌≡◌, ℕ, zero, suc, ◌+◌, ◌<◌, ◌≤◌, List, [], ◌∷◌, ◌++◌, refl, sym, ◌∙◌, ap, subst, arith, Bool, true, false, cond, filter, append-nil, append_assoc, Option, Some, None, inl, inr}
use Rattle.std.specs.Prelude.{Vec, if◌then◌else◌, is_some, MatchOption, ◌&&◌, not, bytes_eq}
use Rattle.std.proofs.lemmas.List.Elements.{filter-append}
use Rattle.std.proofs.lemmas.Grind.{flat_map-append}
use Rattle.hack_base.specs.Names.{Name}
use Rattle.hack_sets.proofs.Listing.{below_or_same}
use Rattle.hack_plan.specs.Runs.{Set}
use Rattle.hack_powerset_list.specs.Lines.{run_line}
use Rattle.hack_sets.specs.Walk.{below}
use Rattle.hack_features.specs.declared.rules.Rules.{Rules}
use Rattle.hack_sets.specs.Questions.{is_whole}
use Rattle.hack_features.specs.View.{may_of, size_of, whole_of}
use Rattle.hack_powerset_list.specs.Walks.{EndsIn, is_other, listed_below, listed_in, set_lines}

-- rules that were asked more questions say the same of sets

pub other-same : (r s : Rules) (last : List ℕ) → whole_of s ≡ whole_of r → is_other s last ≡ is_other r last
other-same r s last whole = ap (λ f (x : List ℕ). is_whole f x && not (bytes_eq x last)) whole

pub listed-same : (r s : Rules) (p : ℕ) (x : List ℕ) → may_of s ≡ may_of r → whole_of s ≡ whole_of r → listed_below s p x ≡ listed_below r p x
listed-same r s p x may whole = ap (λ f. filter (is_whole f) (below (may_of s) p x)) whole ∙ ap (λ f. filter (is_whole (whole_of r)) (below f p x)) may

pub listed-in-same : (r s : Rules) → size_of s ≡ size_of r → may_of s ≡ may_of r → whole_of s ≡ whole_of r → listed_in s ≡ listed_in r
listed-in-same r s size may whole = ap (λ n. listed_below s n []) size ∙ listed-same r s (size_of r) [] may whole

module _ (test : List ℕ → Bool) (may : List ℕ → Bool) (q : ℕ) (s : List ℕ) where
  -- a position that is refused adds nothing
  pub below-skip : may (q ∷ s) ≡ false → filter test (below may (suc q) s) ≡ filter test (below may q s)
  below-skip refused =
      ap (λ b. filter test (below may q s ++ (if b then (q ∷ s) ∷ below may q (q ∷ s) else []))) refused
      ∙ ap (filter test) (append-nil (below may q s))

  -- a position that is permitted adds the set with it and what is below that
  pub below-step : may (q ∷ s) ≡ true
      → filter test (below may (suc q) s) ≡ filter test (below may q s) ++ cond (test (q ∷ s)) ((q ∷ s) ∷ filter test (below may q (q ∷ s))) (filter test (below may q (q ∷ s)))
  below-step permitted =
      ap (λ b. filter test (below may q s ++ (if b then (q ∷ s) ∷ below may q (q ∷ s) else []))) permitted
      ∙ filter-append test (below may q s) ((q ∷ s) ∷ below may q (q ∷ s))

-- nothing is below a set that no position may be put in front of
pub below-full : (may : List ℕ → Bool) (s : List ℕ) (p : ℕ) → ((q : ℕ) → may (q ∷ s) ≡ false) → below may p s ≡ []
below-full may s zero full = refl
below-full may s (suc p) full =
    ap (λ b. below may p s ++ (if b then (p ∷ s) ∷ below may p (p ∷ s) else [])) (full p)
    ∙ append-nil (below may p s)
    ∙ below-full may s p full

-- the last set of a list, if there is one
abbrev pub Ends : {Z : Type 0} → List (List ℕ) → Option (Vec ℕ Z) → Type 0
Ends xs last = MatchOption last (xs ≡ []) (λ set. EndsIn xs set.items)

ends-behind : (xs ys : List (List ℕ)) (t : List ℕ) → EndsIn ys t → EndsIn (xs ++ ys) t
ends-behind xs ys t h = record { front = xs ++ h.front; same = ap (λ l. xs ++ l) h.same ∙ sym (append_assoc xs h.front (t ∷ [])) }

-- the last set stays the last after other sets are put in front
pub ends-append : {Z : Type 0} (xs ys zs : List (List ℕ)) (last : Option (Vec ℕ Z)) → zs ≡ xs ++ ys → is_some last ≡ true → Ends ys last → Ends zs last
ends-append xs ys zs None is some h = absurd (let e : false ≡ true = some in cc)
ends-append xs ys zs (Some t) is some h = subst (λ l. EndsIn l t.items) (sym is) (ends-behind xs ys t.items h)

pub ends-none : {Z : Type 0} (xs ys zs : List (List ℕ)) (last : Option (Vec ℕ Z)) → zs ≡ xs ++ ys → is_some last ≡ false → Ends ys last → zs ≡ xs
ends-none xs ys zs None is none h = is ∙ ap (λ l. xs ++ l) h ∙ append-nil xs
ends-none xs ys zs (Some t) is none h = absurd (let e : true ≡ false = none in cc)

-- the same with one more set in front, or none
pub ends-kept : {Z : Type 0} (b : Bool) (x : List ℕ) (ys : List (List ℕ)) (last : Option (Vec ℕ Z)) → is_some last ≡ true → Ends ys last → Ends (cond b (x ∷ ys) ys) last
ends-kept b x ys None some h = absurd (let e : false ≡ true = some in cc)
ends-kept true x ys (Some t) some h = record { front = x ∷ h.front; same = ap (λ l. x ∷ l) h.same }
ends-kept false x ys (Some t) some h = h

pub ends-left_out : {Z : Type 0} (b : Bool) (x : List ℕ) (ys : List (List ℕ)) (last : Option (Vec ℕ Z)) → b ≡ false → Ends ys last → Ends (cond b (x ∷ ys) ys) last
ends-left_out b x ys last e h = subst (λ c. Ends (cond c (x ∷ ys) ys) last) (sym e) h

pub ends-here : {Z : Type 0} (b : Bool) (x : List ℕ) (ys : List (List ℕ)) (last : Option (Vec ℕ Z)) (set : Vec ℕ Z) → b ≡ true → is_some last ≡ false → Ends ys last → set.items ≡ x → EndsIn (cond b (x ∷ ys) ys) set.items
ends-here b x ys None set e none h is =
    subst (λ c. EndsIn (cond c (x ∷ ys) ys) set.items) (sym e) (record { front = []; same = ap (λ l. x ∷ l) h ∙ ap (λ t. t ∷ []) (sym is) })
ends-here b x ys (Some t) set e none h is = absurd (let f : true ≡ false = none in cc)

-- with a lower limit a front of what is listed with a higher one is listed
pub below-front : (test may : List ℕ → Bool) (s : List ℕ) (p limit : ℕ) → p ≤ limit → (rest : List (List ℕ)) × (filter test (below may limit s) ≡ filter test (below may p s) ++ rest)
below-front test may s p zero le = ([], let same : zero ≡ p = omega arith in ap (λ n. filter test (below may n s)) same ∙ sym (append-nil (filter test (below may p s))))
below-front test may s p (suc limit) le =
    elim (below_or_same p (suc limit) (omega (arith, le))) [
      | inl w ↦
          let more = below-front test may s p limit (omega (arith, w)) in
          let added : List (List ℕ) = if may (limit ∷ s) then (limit ∷ s) ∷ below may limit (limit ∷ s) else [] in (
            more.0 ++ filter test added,
            filter-append test (below may limit s) added
                ∙ ap (λ l. l ++ filter test added) more.1
                ∙ append_assoc (filter test (below may p s)) more.0 (filter test added),
          )
      | inr e ↦ ([], ap (λ n. filter test (below may n s)) (sym e) ∙ sym (append-nil (filter test (below may p s))))
    ]

-- the line of one set that passes a test
pub line-alone : (names : List Name) (test : List ℕ → Bool) (x : List ℕ) → test x ≡ true → set_lines names (filter test (x ∷ [])) ≡ run_line names (Set x)
line-alone names test x e = ap (λ b. set_lines names (cond b (x ∷ []) [])) e ∙ append-nil (run_line names (Set x))

-- the lines of listed sets, one position more at a time
module _ (names : List Name) (test may : List ℕ → Bool) (s : List ℕ) where
  -- the lines of the sets below a number
  abbrev pub lines_below : ℕ → List ℕ
  lines_below p = set_lines names (filter test (below may p s))

  -- the line of the set with one position in front, and those below it
  abbrev pub line_at : ℕ → List ℕ
  line_at p = set_lines names (filter test ((p ∷ s) ∷ []))

  abbrev pub lines_under : ℕ → List ℕ
  lines_under p = set_lines names (filter test (below may p (p ∷ s)))

  front-cond : (b : Bool) (x : List ℕ) (F : List (List ℕ)) → cond b (x ∷ F) F ≡ cond b (x ∷ []) [] ++ F
  front-cond true x F = refl
  front-cond false x F = refl

  pub text-step : (p : ℕ) → may (p ∷ s) ≡ true → lines_below (p + 1) ≡ lines_below p ++ (line_at p ++ lines_under p)
  text-step p permitted =
      let under : List (List ℕ) = filter test (below may p (p ∷ s)) in
      let here : List (List ℕ) = filter test ((p ∷ s) ∷ []) in
      let at : p + 1 ≡ suc p = omega arith in
      ap lines_below at
      ∙ ap (set_lines names) (below-step test may p s permitted ∙ ap (λ l. filter test (below may p s) ++ l) (front-cond (test (p ∷ s)) (p ∷ s) under))
      ∙ flat_map-append (λ t. run_line names (Set t)) (filter test (below may p s)) (here ++ under)
      ∙ ap (λ l. lines_below p ++ l) (flat_map-append (λ t. run_line names (Set t)) here under)

  pub text-skip : (p : ℕ) → may (p ∷ s) ≡ false → lines_below (p + 1) ≡ lines_below p
  text-skip p refused = let at : p + 1 ≡ suc p = omega arith in ap lines_below at ∙ ap (set_lines names) (below-skip test may p s refused)

  pub text-rest : (p limit : ℕ) → p ≤ limit → (rest : List ℕ) × (lines_below limit ≡ lines_below p ++ rest)
  text-rest p limit le =
      let more = below-front test may s p limit le in
      (set_lines names more.0, ap (set_lines names) more.1 ∙ flat_map-append (λ t. run_line names (Set t)) (filter test (below may p s)) more.0)

  -- all lines, where those of one position come next
  pub text-all : (p limit : ℕ) → p < limit → may (p ∷ s) ≡ true → (rest : List ℕ) × (lines_below limit ≡ lines_below p ++ (line_at p ++ (lines_under p ++ rest)))
  text-all p limit lt permitted =
      let more = text-rest (p + 1) limit (omega (arith, lt)) in (
        more.0,
        more.1 ∙ ap (λ l. l ++ more.0) (text-step p permitted)
            ∙ append_assoc (lines_below p) (line_at p ++ lines_under p) more.0
            ∙ ap (λ l. lines_below p ++ l) (append_assoc (line_at p) (lines_under p) more.0),
      )
