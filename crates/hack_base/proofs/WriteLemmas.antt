-- A prefix of a text that a writer took, and what is written after it.
use Rattle.std.proofs.Common.{◌≡◌, ℕ, ◌-◌, List, ◌++◌, ◌<◌, Bool, true, false, ◌&&◌, lt-ltb, length, take, drop, Option, Some, None, Result, Ok, Err, IsErrAnd, ap, sym, subst, ◌∙◌, append_assoc, take-append-drop, arith}
use Rattle.std.specs.Prelude.{if◌then◌else◌}
use Rattle.std.proofs.lemmas.List.{take_rest}
use Rattle.std.specs.Io.KnownBytes.{Appends, Keeps}
use Rattle.std.proofs.KnownBytes.{Appends-trans}
use Rattle.hack_base.specs.Writes.{AppendsFront, CountsErrors, CountsWrite, HasFailed, NoFewer, one_more, takes_none}
use Rattle.hack_base.specs.WriteLaws.{NoFewer-refl, NoFewer-trans, failed-later}

-- all of one text, and a prefix of the next
pub AppendsFront-then : (a b c : Option (List ℕ)) (bs cs : List ℕ) → Appends a b bs → AppendsFront b c cs → AppendsFront a c (bs ++ cs)
AppendsFront-then a b c bs cs p q = (bs ++ q.0, q.1, ap (λ l. bs ++ l) q.2 ∙ sym (append_assoc bs q.0 q.1), Appends-trans a b c bs q.0 p q.3)

-- a prefix of a text is one of a longer text
pub AppendsFront-append : (a b : Option (List ℕ)) (bs cs : List ℕ) → AppendsFront a b bs → AppendsFront a b (bs ++ cs)
AppendsFront-append a b bs cs q = (q.0, q.1 ++ cs, ap (λ l. l ++ cs) q.2 ∙ append_assoc q.0 q.1 cs, q.3)

-- a writer takes n bytes more of the rest
pub front-more : (all done rest : List ℕ) (n : ℕ) → all ≡ done ++ rest → all ≡ (done ++ take n rest) ++ take (length rest - n) (drop n rest)
front-more all done rest n e = e ∙ ap (λ l. done ++ l) (sym (take-append-drop n rest)) ∙ sym (append_assoc done (take n rest) (drop n rest)) ∙ ap (λ l. (done ++ take n rest) ++ l) (sym (take_rest rest n))

-- a write that took nothing
pub Appends-kept : (a b c : Option (List ℕ)) (bs : List ℕ) → Appends a b bs → Keeps b c → Appends a c bs
Appends-kept None b c bs p q = tt
Appends-kept (Some x) None c bs p q = absurd p
Appends-kept (Some x) (Some y) None bs p q = absurd q
Appends-kept (Some x) (Some y) (Some z) bs p q = q ∙ p

-- ---- counts of failures

-- a count that stayed is no fewer
pub stayed : (a b : Option ℕ) → b ≡ a → NoFewer a b
stayed a b is = subst (NoFewer a) (sym is) (NoFewer-refl a)

pub grown : (a b : Option ℕ) → HasFailed a b → NoFewer a b
grown None b p = tt
grown (Some n) None p = absurd p
grown (Some n) (Some m) p = p.0

-- one failure more was counted
pub one-failed : (a b : Option ℕ) → b ≡ one_more a → HasFailed a b
one-failed a b is = subst (HasFailed a) (sym is) (rose a)
  where
    rose : (a : Option ℕ) → HasFailed a (one_more a)
    rose None = tt
    rose (Some n) = (omega arith, λ room. omega (arith, room))

-- what one write counts
pub write-grows : (failed : Bool) (a b : Option ℕ) → b ≡ (if failed then one_more a else a) → NoFewer a b
write-grows true a b is = grown a b (one-failed a b is)
write-grows false a b is = stayed a b is

-- a write that takes none of some bytes counts as failed
pub took-none : (E : Type 0) (bytes : List ℕ) (a b : Option ℕ) (r : Result ℕ E) → CountsWrite bytes a b r → 0 < length bytes → takes_none r ≡ true → HasFailed a b
took-none E bytes a b r is some none = one-failed a b (is ∙ ap (λ failed. if failed then one_more a else a) (ap (λ more. more && takes_none r) (lt-ltb 0 (length bytes) some) ∙ none))

-- a write after tries that took nothing
pub Appends-after : (a b c : Option (List ℕ)) (bs : List ℕ) → Keeps a b → Appends b c bs → Appends a c bs
Appends-after None b c bs p q = tt
Appends-after (Some x) None c bs p q = absurd p
Appends-after (Some x) (Some y) None bs p q = absurd q
Appends-after (Some x) (Some y) (Some z) bs p q = q ∙ ap (λ l. l ++ bs) p

-- an error with a failure that was counted
pub counts-refused : (T E : Type 0) (P : E → Type 0) (a b : Option ℕ) (r : Result T E) → IsErrAnd r P → HasFailed a b → CountsErrors a b r
counts-refused T E P a b (Ok done) refused p = absurd refused
counts-refused T E P a b (Err fault) refused p = p

-- a text written after others
pub errors-later : (T E : Type 0) (a b c : Option ℕ) (r : Result T E) → NoFewer a b → CountsErrors b c r → CountsErrors a c r
errors-later T E a b c (Ok done) p q = NoFewer-trans a b c p q
errors-later T E a b c (Err fault) p q = failed-later a b c p q

-- ---- a text that was written whole, or with a failure
