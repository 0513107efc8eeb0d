-- Lists of entries joined.
use Rattle.std.proofs.Common.{◌⊎◌, ℕ, ◌-◌, ◌<◌, ◌≤◌, List, ◌++◌, length, arith, refl, ap, ◌∙◌, inl, inr, get_or, length-append, append_assoc}
use Rattle.std.specs.List.{AllPairs, Contains}
use Rattle.std.proofs.lemmas.List.{get_or_append_left, get_or-append_right}
use Rattle.std.proofs.lemmas.List.Elements.{Contains-get_or, All-append, All-contains, All-weaker, Contains-append_left, Contains-append_right}
use Rattle.hack_plan.specs.declared.places.PlanEntry.{PlanEntry}
use Rattle.hack_plan.specs.Entries.{Lists, AddsEntries, Before, Overfills}

lt_or_le : (a b : ℕ) → (a < b) ⊎ (b ≤ a)
lt_or_le a b = grind arith

pub AllPairs-append : {X : Type 0} (R : X → X → Type 0) (xs ys : List X) → AllPairs R xs → AllPairs R ys → ((a b : X) → Contains xs a → Contains ys b → R a b) → AllPairs R (xs ++ ys)
AllPairs-append R xs ys f g h i j d l m = go (lt_or_le j (length xs)) (lt_or_le i (length xs))
  where
    go : (j < length xs) ⊎ (length xs ≤ j) → (i < length xs) ⊎ (length xs ≤ i) → R (get_or (xs ++ ys) i d) (get_or (xs ++ ys) j d)
    go (inl u) v = let w : i < length xs = omega arith in rw (get_or_append_left xs ys d i w, get_or_append_left xs ys d j u) (f i j d l u)
    go (inr u) (inl v) =
        let w : j - length xs < length ys = omega (arith, length-append xs ys) in
        rw (get_or_append_left xs ys d i v, get_or-append_right xs ys (length xs) j d refl u) (h _ _ (Contains-get_or xs i d v) (Contains-get_or ys (j - length xs) d w))
    go (inr u) (inr v) =
        let w : j - length xs < length ys = omega (arith, length-append xs ys) in
        let k : i - length xs < j - length xs = omega arith in
        rw (get_or-append_right xs ys (length xs) i d refl v, get_or-append_right xs ys (length xs) j d refl u) (g (i - length xs) (j - length xs) d k w)

pub Lists-append : (P Q R : PlanEntry → Type 0) (xs ys : List PlanEntry) → Lists P xs → Lists Q ys → ((a b : PlanEntry) → P a → Q b → Before a b) → ((q : PlanEntry) → R q → P q ⊎ Q q) → ((q : PlanEntry) → P q → R q) → ((q : PlanEntry) → Q q → R q) → Lists R (xs ++ ys)
Lists-append P Q R xs ys f g before split left right = record {
  increasing = AllPairs-append Before xs ys f.increasing g.increasing (λ a b x y. before a b (All-contains P xs a f.sound x) (All-contains Q ys b g.sound y));
  sound = All-append R xs ys (All-weaker P R left xs f.sound) (All-weaker Q R right ys g.sound);
  complete = λ q r. elim (split q r) [ inl p ↦ Contains-append_left xs ys q (f.complete q p) | inr p ↦ Contains-append_right xs ys q (g.complete q p) ];
}

pub Adds-then : (P Q R : PlanEntry → Type 0) (old mid new : List PlanEntry) → AddsEntries P old mid → AddsEntries Q mid new → ((a b : PlanEntry) → P a → Q b → Before a b) → ((q : PlanEntry) → R q → P q ⊎ Q q) → ((q : PlanEntry) → P q → R q) → ((q : PlanEntry) → Q q → R q) → AddsEntries R old new
Adds-then P Q R old mid new f g before split left right = record {
  added = f.added ++ g.added;
  grown = g.grown ∙ ap (λ t. t ++ g.added) f.grown ∙ append_assoc old f.added g.added;
  lists = Lists-append P Q R f.added g.added f.lists g.lists before split left right;
}

pub Overfills-then : (P Q R : PlanEntry → Type 0) (old mid : List PlanEntry) → AddsEntries P old mid → Overfills Q mid → ((a b : PlanEntry) → P a → Q b → Before a b) → ((q : PlanEntry) → P q → R q) → ((q : PlanEntry) → Q q → R q) → Overfills R old
Overfills-then P Q R old mid f g before left right = record {
  added = f.added ++ g.added;
  increasing = AllPairs-append Before f.added g.added f.lists.increasing g.increasing (λ a b x y. before a b (All-contains P f.added a f.lists.sound x) (All-contains Q g.added b g.sound y));
  sound = All-append R f.added g.added (All-weaker P R left f.added f.lists.sound) (All-weaker Q R right g.added g.sound);
  many = omega (arith, g.many, ap length f.grown, length-append old f.added, length-append f.added g.added);
}
