-- What links make, one more at a time, and how a set is read off them.
use Rattle.std.proofs.Common.{◌≡◌, ℕ, zero, suc, ◌+◌, ◌-◌, ◌<◌, ◌≤◌, List, [], ◌∷◌, ◌++◌, length, get_or, refl, sym, ◌∙◌, ap, subst, arith, length-append, append_assoc, Bool, true, false, cond}
use Rattle.std.proofs.Math.ListN.{get_or-append}
use Rattle.std.proofs.Math.Seq.{get_or-append_seam}
use Rattle.std.proofs.lemmas.List.{reverse-append}
use Rattle.std.specs.Prelude.{reverse}
use Rattle.hack_sets.specs.declared.forest.Link.{Link}
use Rattle.hack_sets.specs.Links.{grown_sets, LeadBack}
use Rattle.hack_base.proofs.Steps.{row-pushed}

-- the set that a link makes from these
abbrev pub made : List (List ℕ) → Link → List ℕ
made sets link = get_or sets link.earlier [] ++ link.last ∷ []

pub length-grown : (sets : List (List ℕ)) (links : List Link) → length (grown_sets sets links) ≡ length sets + length links
length-grown sets [] = omega arith
length-grown sets (link ∷ links) = omega (arith, length-grown (sets ++ made sets link ∷ []) links, length-append sets (made sets link ∷ []))

-- one more link makes one more set
pub grown-push : (sets : List (List ℕ)) (links : List Link) (link : Link) → grown_sets sets (links ++ link ∷ []) ≡ grown_sets sets links ++ made (grown_sets sets links) link ∷ []
grown-push sets [] link = refl
grown-push sets (first ∷ links) link = grown-push (sets ++ made sets first ∷ []) links link

-- the sets so far keep their places
pub grown-keeps : (sets : List (List ℕ)) (links : List Link) (k : ℕ) → k < length sets → get_or (grown_sets sets links) k [] ≡ get_or sets k []
grown-keeps sets [] k lt = refl
grown-keeps sets (link ∷ links) k lt =
    grown-keeps (sets ++ made sets link ∷ []) links k (omega (arith, length-append sets (made sets link ∷ [])))
    ∙ get_or-append sets (made sets link ∷ []) [] k lt

-- the set of a link, by the set to which it leads
pub grown-at : (sets : List (List ℕ)) (links : List Link) (k : ℕ) (d : Link) → k < length links → (get_or links k d).earlier < length sets + k
    → get_or (grown_sets sets links) (length sets + k) [] ≡ made (grown_sets sets links) (get_or links k d)
grown-at sets [] k d lt back = absurd (omega arith)
grown-at sets (link ∷ links) zero d lt back =
    let new = made sets link in
    let here : get_or (grown_sets (sets ++ new ∷ []) links) (length sets) [] ≡ new =
    grown-keeps (sets ++ new ∷ []) links (length sets) (omega (arith, length-append sets (new ∷ []))) ∙ get_or-append_seam sets new [] [] in
    let at : length sets + zero ≡ length sets = omega arith in
    let before : get_or (grown_sets (sets ++ new ∷ []) links) link.earlier [] ≡ get_or sets link.earlier [] =
    grown-keeps (sets ++ new ∷ []) links link.earlier (omega (arith, length-append sets (new ∷ []))) ∙ get_or-append sets (new ∷ []) [] link.earlier (omega arith) in
    ap (λ n. get_or (grown_sets (sets ++ new ∷ []) links) n []) at ∙ here ∙ ap (λ l. l ++ link.last ∷ []) (sym before)
grown-at sets (link ∷ links) (suc k) d lt back =
    let new = made sets link in
    let len : length (sets ++ new ∷ []) ≡ length sets + 1 = length-append sets (new ∷ []) in
    let at : length sets + suc k ≡ length (sets ++ new ∷ []) + k = omega arith in
    ap (λ n. get_or (grown_sets (sets ++ new ∷ []) links) n []) at
    ∙ grown-at (sets ++ new ∷ []) links k d (omega arith) (omega arith)

-- one more link that leads back
pub back-push : (links : List Link) (link : Link) → LeadBack links → link.earlier ≤ length links → LeadBack (links ++ link ∷ [])
back-push links link back lt k d in' =
    row-pushed (λ q l. l.earlier ≤ q) links (length links) link d refl (λ q le. back q d le) lt k (omega (arith, length-append links (link ∷ [])))

-- the set at a place, from the one before the last position
pub set-at : (links : List Link) (n : ℕ) (d : Link) → LeadBack links → 0 < n → n ≤ length links
    → get_or (grown_sets ([] ∷ []) links) n [] ≡ get_or (grown_sets ([] ∷ []) links) (get_or links (n - 1) d).earlier [] ++ (get_or links (n - 1) d).last ∷ []
set-at links n d back pos le =
    let at : n ≡ 1 + (n - 1) = omega arith in
    let b = back (n - 1) d (omega arith) in
    ap (λ m. get_or (grown_sets ([] ∷ []) links) m []) at
    ∙ grown-at ([] ∷ []) links (n - 1) d (omega arith) (omega (arith, b))

-- one step of reading: the last position goes to the end of what is read, which is in reverse order
pub read-step : (all front set : List ℕ) (p : ℕ) (earlier : List ℕ) → all ≡ front ++ reverse set → front ≡ earlier ++ p ∷ [] → all ≡ earlier ++ reverse (set ++ p ∷ [])
read-step all front set p earlier e f =
    e ∙ ap (λ l. l ++ reverse set) f ∙ append_assoc earlier (p ∷ []) (reverse set) ∙ ap (λ l. earlier ++ l) (sym (reverse-append set (p ∷ [])))

-- the same, whether the link went in or not
pub back-tried : (b : Bool) (links new : List Link) (link : Link) → new ≡ cond b (links ++ link ∷ []) links → LeadBack links → link.earlier ≤ length links → LeadBack new
back-tried true links new link e back le = subst LeadBack (sym e) (back-push links link back le)
back-tried false links new link e back le = subst LeadBack (sym e) back
