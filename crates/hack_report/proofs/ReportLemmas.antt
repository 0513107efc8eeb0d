-- When the report of failed runs is written.
use Rattle.std.proofs.Common.{◌≡◌, ◌∙◌, ◌∷◌, [], ◌||◌, Bool, Global, List, Some, String, Vec, ap, arith, cond, false, length, refl, string_bytes, sym, true, ℕ}
use Rattle.std.specs.Prelude.{◌&&◌, ◌==◌, is_some, not}
use Rattle.std.specs.BTreeMap.{BTreeMap, get_by_text, is_at}
use Rattle.std.specs.Cmp.Lexicographic.{slice_cmp}
use Rattle.std.specs.List.{list_any}
use Rattle.std.specs.Map.{lookup}
use Rattle.std.specs.Ordering.{is_eq, nat_cmp}
use Rattle.std.proofs.lemmas.Bool.{ne_eqb}
use Rattle.std.proofs.lemmas.Cmp.{nat_list_cmp_total, tied_itself}
use Rattle.std.proofs.lemmas.Map.Text.{is_eq-slice_cmp}
use Rattle.hack_session.specs.Reports.{FailedRun, is_of}
use Rattle.hack_term.specs.declared.term.Term.{Term}

-- where neither is so
pub neither : (a b : Bool) → a ≡ false → b ≡ false → (not a && not b) ≡ true
neither false false p q = refl
neither false true p q = cc
neither true b p q = cc

-- where the second is so
pub second : (a b : Bool) → b ≡ true → (not a && not b) ≡ false
second true b p = refl
second false b p = ap not p

itself : (name : List ℕ) → is_eq (slice_cmp nat_cmp name name) ≡ true
itself name = ap is_eq (tied_itself nat_list_cmp_total name)

named-itself : (run : FailedRun) → is_of run.name run ≡ true
named-itself run = sym (is_eq-slice_cmp run.name run.name) ∙ itself run.name

-- where just the names of failed runs are keys, there are keys just where there are runs
alike : {X : Type 0} (es : List (String Global × X)) (runs : List FailedRun) → ((name : List ℕ) → is_some (lookup (is_at (λ k. slice_cmp nat_cmp name (string_bytes k))) es) ≡ list_any (is_of name) runs)
    → (length es == 0) ≡ (length runs == 0)
alike [] [] h = refl
alike (e ∷ es) (run ∷ runs) h = ne_eqb (length (e ∷ es)) 0 (λ none. absurd (omega (arith, none))) ∙ sym (ne_eqb (length (run ∷ runs)) 0 (λ none. absurd (omega (arith, none))))
alike [] (run ∷ runs) h = let e : false ≡ true = h run.name ∙ ap (λ (b : Bool). b || list_any (is_of run.name) runs) (named-itself run) in absurd (cc)
alike (e ∷ es) [] h =
    let name = string_bytes e.0 in
    let e : true ≡ false = sym (ap (λ (b : Bool). is_some (cond b (Some e.1) (lookup (is_at (λ k. slice_cmp nat_cmp name (string_bytes k))) es))) (itself name)) ∙ h name in
    absurd (cc)

pub alike_counts : (m : BTreeMap (String Global) (Vec (String Global) Global)) (runs : List FailedRun) → ((name : List ℕ) → is_some (get_by_text m name) ≡ list_any (is_of name) runs) → (length m.entries == 0) ≡ (length runs == 0)
alike_counts m runs h = alike m.entries runs h

-- where there is no key, nothing is to be reported
pub none_failed : (m : BTreeMap (String Global) (Vec (String Global) Global)) (runs : List FailedRun) (unprepared : Bool) (n : ℕ) → ((name : List ℕ) → is_some (get_by_text m name) ≡ list_any (is_of name) runs) → n ≡ length m.entries → (n == 0) ≡ true
    → (not unprepared && not (length runs == 0)) ≡ false
none_failed m runs unprepared n names counts none = second unprepared (length runs == 0) (sym (alike_counts m runs names) ∙ ap (λ (k : ℕ). k == 0) (sym counts) ∙ none)

-- ... else something is, where each preparation passed
pub some_failed : (m : BTreeMap (String Global) (Vec (String Global) Global)) (runs : List FailedRun) (unprepared : Bool) (n : ℕ) → ((name : List ℕ) → is_some (get_by_text m name) ≡ list_any (is_of name) runs) → n ≡ length m.entries → (n == 0) ≡ false → unprepared ≡ false
    → (not unprepared && not (length runs == 0)) ≡ true
some_failed m runs unprepared n names counts some prepared = neither unprepared (length runs == 0) prepared (sym (alike_counts m runs names) ∙ ap (λ (k : ℕ). k == 0) (sym counts) ∙ some)

or-none : (e : Bool) → (e || false) ≡ e
or-none true = refl
or-none false = refl

or-one : (e : Bool) → (e || true) ≡ true
or-one true = refl
or-one false = refl

-- an error is noted where something is reported
pub noted_none : (term : Term) (reported : Bool) → reported ≡ false → term ≡ record term { error = term.error || reported }
noted_none term reported is = sym (ap (λ (b : Bool). record term { error = term.error || b }) is ∙ ap (λ (b : Bool). record term { error = b }) (or-none term.error))

pub noted_one : (term now : Term) (reported : Bool) → reported ≡ true → now ≡ record term { error = true } → now ≡ record term { error = term.error || reported }
noted_one term now reported is noted = noted ∙ sym (ap (λ (b : Bool). record term { error = term.error || b }) is ∙ ap (λ (b : Bool). record term { error = b }) (or-one term.error))
