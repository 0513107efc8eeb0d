-- Lines that begin with a name.
use Rattle.std.proofs.Common.{◌≡◌, ℕ, ◌+◌, ◌<◌, List, ◌∷◌, length, drop, get_or, arith, refl, ap, sym, ◌∙◌, subst, Option, Some, None, MatchOption, Bool, true, false, cond, eqb, option_copied, option_map, is_some, IsCharBoundary, Bor}
use Rattle.std.specs.List.{find, starts_with}
use Rattle.std.specs.Str.Pattern.{FindsTextPrefix, StripsPrefix}
use Rattle.std.proofs.lemmas.List.{at_drop_more, at_drop_all}
use Rattle.std.proofs.lemmas.Str.Pattern.{starts_text}
use Rattle.hack_process.specs.CargoTexts.{first_behind}
use Rattle.hack_process.specs.Internal.{behind_prefix}

chosen : (b : Bool) (x : List ℕ) → b ≡ true → cond b (Some x) None ≡ Some x
chosen b x e = rw e refl

skipped : (b : Bool) (x : List ℕ) → b ≡ false → cond b (Some x) None ≡ None
skipped b x e = rw e refl

pub behind-is : (name line : List ℕ) (r : Option (Bor (List ℕ))) → MatchOption r (FindsTextPrefix name line None) (λ x. StripsPrefix (FindsTextPrefix name) line x.now) → option_copied r ≡ behind_prefix name line
behind-is name line None h = sym (skipped (starts_with eqb line name) (drop (length name) line) (sym (starts_text false name line h)))
behind-is name line (Some x) h =
    let t : true ≡ starts_with eqb line name = starts_text true name line (h.0, h.1, subst (λ k. IsCharBoundary line k) (sym h.1.0) h.1.2) in
    ap Some (h.2 ∙ ap (λ k. drop k line) h.1.0) ∙ sym (chosen (starts_with eqb line name) (drop (length name) line) (sym t))

found : (f : List ℕ → List ℕ) (b : Bool) (x : List ℕ) (y v : Option (List ℕ)) → cond b (Some (f x)) None ≡ v → is_some v ≡ true → option_map f (cond b (Some x) y) ≡ v
found f true x y v e s = e
found f false x y v e s = let t : is_some {T = List ℕ} None ≡ true = subst (λ o. is_some o ≡ true) (sym e) s in cc

passed : (f : List ℕ → List ℕ) (b : Bool) (x : List ℕ) (y v : Option (List ℕ)) → cond b (Some (f x)) None ≡ v → is_some v ≡ false → option_map f (cond b (Some x) y) ≡ option_map f y
passed f true x y v e s = let t : is_some {T = List ℕ} (Some (f x)) ≡ false = subst (λ o. is_some o ≡ false) (sym e) s in cc
passed f false x y v e s = refl

-- the first of these lines that begins with the name
abbrev first_begun : List ℕ → List (List ℕ) → Option (List ℕ)
first_begun name ls = find (λ l. starts_with eqb l name) ls

pub is_some-copied : (r : Option (Bor (List ℕ))) (b : Bool) → is_some r ≡ b → is_some (option_copied r) ≡ b
is_some-copied None b e = e
is_some-copied (Some x) b e = e

pub first-here : (name : List ℕ) (ls : List (List ℕ)) (n : ℕ) (line : List ℕ) (v : Option (List ℕ)) → n < length ls → line ≡ get_or ls n line → v ≡ behind_prefix name line → is_some v ≡ true → first_behind name (drop n ls) ≡ v
first-here name ls n line v l e f s =
    at_drop_more (first_behind name) ls n line l ∙ subst (λ x. first_behind name (x ∷ drop (n + 1) ls) ≡ v) e (found (drop (length name)) (starts_with eqb line name) line (first_begun name (drop (n + 1) ls)) v (sym f) s)

pub first-later : (name : List ℕ) (ls : List (List ℕ)) (n : ℕ) (line : List ℕ) (v : Option (List ℕ)) → n < length ls → line ≡ get_or ls n line → v ≡ behind_prefix name line → is_some v ≡ false → first_behind name (drop n ls) ≡ first_behind name (drop (n + 1) ls)
first-later name ls n line v l e f s =
    at_drop_more (first_behind name) ls n line l ∙ subst (λ x. first_behind name (x ∷ drop (n + 1) ls) ≡ first_behind name (drop (n + 1) ls)) e (passed (drop (length name)) (starts_with eqb line name) line (first_begun name (drop (n + 1) ls)) v (sym f) s)

pub first-end : (name : List ℕ) (ls : List (List ℕ)) (n : ℕ) → n ≡ length ls → first_behind name (drop n ls) ≡ None
first-end name ls n e = at_drop_all (first_behind name) ls n (omega (arith, e))
