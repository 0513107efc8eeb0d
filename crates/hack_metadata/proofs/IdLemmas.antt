-- Which package an id means, and ids each once.
use Rattle.std.proofs.Common.{◌≡◌, ◌==◌, ◌&&◌, ◌||◌, not, ℕ, suc, ◌+◌, ◌<◌, ◌≤◌, Bool, true, false, cond, List, [], ◌∷◌, ◌++◌, map, length, take, drop, get_or, String, BTreeMap, BTreeSet, Global, Option, Some, None, option_map, string_bytes, nat_cmp, append_assoc, arith, refl, sym, ap, ◌∙◌, inl, inr}
use Rattle.std.specs.Prelude.{fold}
use Rattle.std.specs.List.{enumerate_from, filter, list_any}
use Rattle.std.specs.Option.{option_or}
use Rattle.std.specs.Str.{bytes_eq}
use Rattle.std.specs.BTreeMap.{get_by_text}
use Rattle.std.specs.BTreeSet.{contains}
use Rattle.std.specs.Ordering.{is_eq}
use Rattle.std.specs.Map.{update}
use Rattle.std.proofs.lemmas.Bool.{cases_Bool, eqb-true}
use Rattle.std.proofs.lemmas.Bool.Decides.{nat_tests}
use Rattle.std.proofs.lemmas.List.{length-take, length-map, take_all}
use Rattle.std.proofs.lemmas.List.Folds.{list_any-append}
use Rattle.std.proofs.Math.Path.{fun_ext}
use Rattle.std.proofs.Math.Seq.{drop-cons}
use Rattle.hack_base.specs.Names.{Name}
use Rattle.hack_base.proofs.Steps.{seen-next}
use Rattle.hack_metadata.specs.MetadataReading.{place_of, distinct}
use Rattle.hack_metadata.specs.Records.{PackageRecord}
use Rattle.hack_metadata.specs.RecordViews.{package_view, place_at}
use Rattle.hack_metadata.specs.Internal.{place_in}
use Rattle.hack_metadata.specs.declared.metadata.package.Package.{Package}
use Rattle.hack_metadata.specs.declared.metadata.resolve.PackageId.{PackageId}

-- ---- the last package with an id

-- the place of the last package with the id, where the first of the ids has the place k
abbrev pub place_from : ℕ → List Name → Name → Option ℕ
place_from k [] id = None
place_from k (x ∷ ids) id = option_or (place_from (k + 1) ids id) (cond (bytes_eq x id) (Some k) None)

or-cond : (o earlier : Option ℕ) (b : Bool) (k : ℕ) → option_or o (cond b (Some k) earlier) ≡ option_or (option_or o (cond b (Some k) None)) earlier
or-cond (Some j) earlier b k = refl
or-cond None earlier true k = refl
or-cond None earlier false k = refl

-- the same, by what a fold over the numbered packages keeps
kept-from : (k : ℕ) (packages : List PackageRecord) (id : Name) (earlier : Option ℕ)
    → fold (λ (last : Option ℕ) (e : ℕ × PackageRecord). cond (bytes_eq e.1.id id) (Some e.0) last) earlier (enumerate_from k packages)
    ≡ option_or (place_from k (map (λ (p : PackageRecord). p.id) packages) id) earlier
kept-from k [] id earlier = refl
kept-from k (p ∷ packages) id earlier =
    kept-from (k + 1) packages id (cond (bytes_eq p.id id) (Some k) earlier)
    ∙ or-cond (place_from (k + 1) (map (λ (q : PackageRecord). q.id) packages) id) earlier (bytes_eq p.id id) k

or-none : (o : Option ℕ) → option_or o None ≡ o
or-none None = refl
or-none (Some k) = refl

pub place_of-from : (packages : List PackageRecord) (id : Name) → place_of packages id ≡ place_from 0 (map (λ (p : PackageRecord). p.id) packages) id
place_of-from packages id = kept-from 0 packages id None ∙ or-none (place_from 0 (map (λ (p : PackageRecord). p.id) packages) id)

later-cond : (b : Bool) (n m : ℕ) (o earlier : Option ℕ) → n ≡ m → option_or (cond b (Some n) o) earlier ≡ cond b (Some m) (option_or o earlier)
later-cond true n m o earlier e = ap Some e
later-cond false n m o earlier e = refl

-- one more id at the end: its place is the last one with that id
place-next : (k : ℕ) (ids : List Name) (x id : Name) → place_from k (ids ++ x ∷ []) id ≡ cond (bytes_eq x id) (Some (k + length ids)) (place_from k ids id)
place-next k [] x id = ap (λ n. cond (bytes_eq x id) (Some n) None) (let e : k ≡ k + 0 = omega arith in e)
place-next k (y ∷ ids) x id =
    ap (λ o. option_or o (cond (bytes_eq y id) (Some k) None)) (place-next (k + 1) ids x id)
    ∙ later-cond (bytes_eq x id) ((k + 1) + length ids) (k + length (y ∷ ids)) (place_from (k + 1) ids id) (cond (bytes_eq y id) (Some k) None) (let e : (k + 1) + length ids ≡ k + suc (length ids) = omega arith in e)

-- the ids of packages, in one step
abbrev pub ids_in : List Package → List Name
ids_in packages = map (λ p. string_bytes p.id) packages

pub ids_in-is : (packages : List Package) → ids_in packages ≡ map (λ (p : PackageRecord). p.id) (map package_view packages)
ids_in-is [] = refl
ids_in-is (p ∷ packages) = ap (λ ids. string_bytes p.id ∷ ids) (ids_in-is packages)

place-map : (b : Bool) (p : PackageId) (o : Option PackageId) → option_map place_at (cond b (Some p) o) ≡ cond b (Some p.index) (option_map place_at o)
place-map true p o = refl
place-map false p o = refl

-- one more package in the map of ids
pub places-turn : (packages : List Package) (k : ℕ) (pkg : Package) (x : Name) (p : PackageId) (m n : BTreeMap (String Global) PackageId)
    → k < length packages → pkg ≡ get_or packages k pkg → x ≡ string_bytes pkg.id → p.index ≡ k
    → ((cs : Name) → get_by_text n cs ≡ update bytes_eq (get_by_text m) x (Some p) cs)
    → place_in m ≡ place_from 0 (take k (ids_in packages)) → place_in n ≡ place_from 0 (take (k + 1) (ids_in packages))
places-turn packages k pkg x p m n lt is text at updates before =
    let front = take k (ids_in packages) in
    let here : length front ≡ k = simp (length-take, length-map) (omega arith) in
    fun_ext (λ id.
    ap (option_map place_at) (updates id)
    ∙ place-map (bytes_eq x id) p (get_by_text m id)
    ∙ ap (λ o. cond (bytes_eq x id) (Some p.index) o) (ap (λ f. f id) before)
    ∙ ap (λ i. cond (bytes_eq x id) (Some i) (place_from 0 front id)) (at ∙ sym here ∙ (let e : length front ≡ 0 + length front = omega arith in e))
    ∙ ap (λ y. cond (bytes_eq y id) (Some (0 + length front)) (place_from 0 front id)) text
    ∙ sym (place-next 0 front (string_bytes pkg.id) id)
    ∙ ap (λ ids. place_from 0 ids id) (sym (seen-next (λ (q : Package). string_bytes q.id) packages k pkg lt is)))

-- all packages are in the map of ids
pub places-end : (packages : List Package) (k : ℕ) (m : BTreeMap (String Global) PackageId) → length packages ≤ k → place_in m ≡ place_from 0 (take k (ids_in packages)) → place_in m ≡ place_of (map package_view packages)
places-end packages k m past done =
    let all : length (ids_in packages) ≤ k = rw (length-map packages (λ (q : Package). string_bytes q.id)) past in
    done ∙ ap (place_from 0) (take_all k (ids_in packages) all ∙ ids_in-is packages) ∙ fun_ext (λ id. sym (place_of-from (map package_view packages) id))

-- ---- each number once

-- a number is among those that are kept
abbrev pub has : List ℕ → ℕ → Bool
has xs y = list_any (λ x. y == x) xs

abbrev absent : List ℕ → ℕ → Bool
absent xs y = not (has xs y)

one_more : (a b c : Bool) (x : ℕ) (qs rs : List ℕ) (p : ℕ → Bool) → p x ≡ b → (a && b) ≡ c → filter p qs ≡ rs → filter p (cond a (x ∷ qs) qs) ≡ cond c (x ∷ rs) rs
one_more true true c x qs rs p px e h = ap (λ b. cond b (x ∷ filter p qs) (filter p qs)) px ∙ ap (λ l. x ∷ l) h ∙ ap (λ c. cond c (x ∷ rs) rs) e
one_more true false c x qs rs p px e h = ap (λ b. cond b (x ∷ filter p qs) (filter p qs)) px ∙ h ∙ ap (λ c. cond c (x ∷ rs) rs) e
one_more false b c x qs rs p px e h = h ∙ ap (λ c. cond c (x ∷ rs) rs) e

-- to filter by two tests, one after the other, is to filter by both
filter-both : (p q r : ℕ → Bool) (xs : List ℕ) → ((y : ℕ) → (q y && p y) ≡ r y) → filter p (filter q xs) ≡ filter r xs
filter-both p q r [] h = refl
filter-both p q r (x ∷ xs) h = one_more (q x) (p x) (r x) x (filter q xs) (filter r xs) p refl (h x) (filter-both p q r xs h)

filter-all : (xs : List ℕ) → filter (absent []) xs ≡ xs
filter-all [] = refl
filter-all (x ∷ xs) = ap (λ l. x ∷ l) (filter-all xs)

abbrev differs : ℕ → ℕ → Bool
differs x y = not (y == x)

neither : (a b : Bool) → (not b && not a) ≡ not (a || (b || false))
neither true true = refl
neither true false = refl
neither false true = refl
neither false false = refl

-- a number that was kept before adds nothing
distinct-old : (kept rest : List ℕ) (x : ℕ) → has kept x ≡ true → filter (absent kept) (distinct ◌==◌ (x ∷ rest)) ≡ filter (absent kept) (distinct ◌==◌ rest)
distinct-old kept rest x old =
    ap (λ b. cond (not b) (x ∷ filter (absent kept) (filter (differs x) (distinct ◌==◌ rest))) (filter (absent kept) (filter (differs x) (distinct ◌==◌ rest)))) old
    ∙ filter-both (absent kept) (differs x) (absent kept) (distinct ◌==◌ rest) (λ y. elim (cases_Bool (y == x)) [
      | inl t ↦ ap (λ b. not b && absent kept y) t ∙ sym (ap not (ap (has kept) (eqb-true y x t) ∙ old))
      | inr f ↦ ap (λ b. not b && absent kept y) f
    ])

-- a new one is kept
distinct-new : (kept rest : List ℕ) (x : ℕ) → has kept x ≡ false → kept ++ filter (absent kept) (distinct ◌==◌ (x ∷ rest)) ≡ (kept ++ x ∷ []) ++ filter (absent (kept ++ x ∷ [])) (distinct ◌==◌ rest)
distinct-new kept rest x new =
    ap (λ b. kept ++ cond (not b) (x ∷ filter (absent kept) (filter (differs x) (distinct ◌==◌ rest))) (filter (absent kept) (filter (differs x) (distinct ◌==◌ rest)))) new
    ∙ ap (λ l. kept ++ x ∷ l) (filter-both (absent kept) (differs x) (absent (kept ++ x ∷ [])) (distinct ◌==◌ rest) (λ y. neither (has kept y) (y == x) ∙ ap not (sym (list_any-append (λ k. y == k) kept (x ∷ [])))))
    ∙ sym (append_assoc kept (x ∷ []) (filter (absent (kept ++ x ∷ [])) (distinct ◌==◌ rest)))

pub cmp-eq : (k q : ℕ) → is_eq (nat_cmp k q) ≡ (k == q)
cmp-eq k q = grind (arith, nat_tests)

eq-turned : (k q : ℕ) → (k == q) ≡ (q == k)
eq-turned k q = grind (arith, nat_tests)

-- the first k numbers are kept, each once, and the set has the kept ones
pub record AreKept (all : List ℕ) (k : ℕ) (kept : List ℕ) (seen : BTreeSet ℕ) : Type 0 where
  pub whole : kept ++ filter (absent kept) (distinct ◌==◌ (drop k all)) ≡ distinct ◌==◌ all
  pub same : (y : ℕ) → contains nat_cmp seen y ≡ has kept y

pub kept-none : (all : List ℕ) (seen : BTreeSet ℕ) → ((y : ℕ) → contains nat_cmp seen y ≡ false) → AreKept all 0 [] seen
kept-none all seen empty = record { whole = filter-all (distinct ◌==◌ all); same = empty }

turn-at : (b : Bool) (x : ℕ) (rest kept new all : List ℕ) → has kept x ≡ b → new ≡ cond b kept (kept ++ x ∷ []) → kept ++ filter (absent kept) (distinct ◌==◌ (x ∷ rest)) ≡ distinct ◌==◌ all → new ++ filter (absent new) (distinct ◌==◌ rest) ≡ distinct ◌==◌ all
turn-at true x rest kept new all is e h = ap (λ l. l ++ filter (absent l) (distinct ◌==◌ rest)) e ∙ ap (λ l. kept ++ l) (sym (distinct-old kept rest x is)) ∙ h
turn-at false x rest kept new all is e h = ap (λ l. l ++ filter (absent l) (distinct ◌==◌ rest)) e ∙ sym (distinct-new kept rest x is) ∙ h

same-at : (b c : Bool) (x y : ℕ) (kept new : List ℕ) → has kept x ≡ b → new ≡ cond b kept (kept ++ x ∷ []) → (x == y) ≡ c → cond c true (has kept y) ≡ has new y
same-at true true x y kept new is e eq = sym (ap (λ l. has l y) e ∙ ap (has kept) (sym (eqb-true x y eq)) ∙ is)
same-at true false x y kept new is e eq = sym (ap (λ l. has l y) e)
same-at false c x y kept new is e eq = sym (ap (λ l. has l y) e ∙ list_any-append (λ k. y == k) kept (x ∷ []) ∙ ap (λ d. has kept y || (d || false)) (eq-turned y x ∙ eq) ∙ turned c (has kept y))
  where
    turned : (c b : Bool) → (b || (c || false)) ≡ cond c true b
    turned true true = refl
    turned true false = refl
    turned false true = refl
    turned false false = refl

-- one more number
pub kept-turn : (all : List ℕ) (k x : ℕ) (kept new : List ℕ) (seen grown : BTreeSet ℕ) → k < length all → x ≡ get_or all k x
    → new ≡ cond (contains nat_cmp seen x) kept (kept ++ x ∷ []) → ((y : ℕ) → contains nat_cmp grown y ≡ cond (x == y) true (contains nat_cmp seen y))
    → AreKept all k kept seen → AreKept all (k + 1) new grown
kept-turn all k x kept new seen grown lt is pushed grows before =
    let here : drop k all ≡ x ∷ drop (k + 1) all = drop-cons all k x lt ∙ ap (λ h. h ∷ drop (suc k) all) (sym is) ∙ ap (λ n. x ∷ drop n all) (let e : suc k ≡ k + 1 = omega arith in e) in
    let pushed' : new ≡ cond (has kept x) kept (kept ++ x ∷ []) = pushed ∙ ap (λ b. cond b kept (kept ++ x ∷ [])) (before.same x) in
    record {
      whole = turn-at (has kept x) x (drop (k + 1) all) kept new all refl pushed' (ap (λ l. kept ++ filter (absent kept) (distinct ◌==◌ l)) (sym here) ∙ before.whole);
      same = λ y. grows y ∙ ap (λ b. cond (x == y) true b) (before.same y) ∙ same-at (has kept x) (x == y) x y kept new refl pushed' refl;
    }
