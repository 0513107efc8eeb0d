-- The row of a journal is removed, once all is put back.
use Rattle.std.proofs.Common.{◌≡◌, ◌≢◌, ◌<◌, ◌-◌, ◌^◌, inl, inr, ℕ, suc, List, [], ◌∷◌, None, sym, ◌∙◌, subst, ap, true, arith}
use Rattle.hack_files.specs.Files.{Contents, KeepsAll, KeepsOthers, Makes, MakesOrNot, Trace, after, removes}
use Rattle.hack_journal.specs.Journal.{Edit}
use Rattle.hack_journal.specs.Rows.{Spot, file_at, is_of_journal}
use Rattle.hack_journal.specs.SafeFiles.{KeepFirst, IsKeptBy, IsSafe, StaysSafe}
use Rattle.hack_journal.specs.Recovery.{IsOwn}
use Rattle.hack_journal.specs.Internal.{IsBackBut, backs}
use Rattle.hack_journal.specs.SafeLaws.{fresh_less, stay_none, stay_append}
use Rattle.hack_journal.specs.Strangers.{first_stranger}
use Rattle.hack_files.proofs.FilesLemmas.{makes_here, makes_others}
use Rattle.hack_journal.proofs.KnownLemmas.{known_left}
use Rattle.hack_journal.proofs.RecoverLemmas.{backs_first, backs_own}
use Rattle.hack_journal.proofs.RowLemmas.{apart_from, file_differ, first_along, fresh_apart, fresh_changed, own_file}
use Rattle.hack_journal.proofs.SafeLemmas.{keeps_left, stay_one}

pub back_but_safe : (s : Spot) (o : Contents) (c : ℕ) (m : Contents) → IsBackBut s o c m → IsSafe s o m
back_but_safe s o c m h = record {
  entries = h.entries;
  by = record { row = record { count = c; files = h.files; ends = h.ends }; fresh = h.fresh; known = h.known; keeps = h.keeps; holds = λ q out. inl (h.same q out) };
}

-- its last file was removed
pub removed_last : (s : Spot) (o : Contents) (c : ℕ) (t u : Trace) (m n : Contents) → suc c < 2 ^ 64 → Makes (removes (file_at s.journal c) ∷ []) t u m n → IsBackBut s o (suc c) m → IsBackBut s o c n
removed_last s o c t u m n low makes h =
    let j = s.journal in
    let here : n (file_at j c) ≡ None = makes_here t u (removes (file_at j c)) m n makes in
    let others : KeepsOthers (file_at j c) m n = makes_others t u (removes (file_at j c)) m n makes in
    record {
      entries = h.files.0;
      files = first_along s m n c h.files.0 (λ i lt. others (file_at j i) (file_differ j i c (omega (arith, lt, low)) (omega (arith, low)) (omega (arith, lt)))) h.files.2;
      ends = here;
      fresh = fresh_less j c o n (fresh_changed j (suc c) c o m n (omega arith) others h.fresh) here;
      known = known_left h.files.0 h.files.1 (ap first_stranger (sym h.files.4) ∙ h.known);
      keeps = keeps_left j o h.files.0 h.files.1 (subst (λ (l : List Edit). KeepFirst j o l) h.files.4 h.keeps);
      same = λ q out. others q (apart_from j c q out) ∙ h.same q out;
    }

pub last_or_not : (s : Spot) (o : Contents) (c : ℕ) (t u : Trace) (m n : Contents) → suc c < 2 ^ 64 → MakesOrNot (removes (file_at s.journal c)) t u m n → IsBackBut s o (suc c) m → StaysSafe s o t u m n
last_or_not s o c t u m n low makes h = elim makes [
  | inl none ↦ stay_none (IsSafe s o) t u m n none (back_but_safe s o (suc c) m h)
  | inr made ↦ stay_one (IsSafe s o) (removes (file_at s.journal c)) t u m n made (back_but_safe s o (suc c) m h) (back_but_safe s o c n (removed_last s o c t u m n low made h))
]

-- where all is put back, only the row is left
pub back_but_of : (s : Spot) (o : Contents) (c : ℕ) (es : List Edit) (m n : Contents) → (by : IsKeptBy IsOwn s o es m) → by.row.count ≡ c → KeepsAll (after (backs es) m) n → IsBackBut s o c n
back_but_of s o c es m n by is back =
    let own : (q : List ℕ) → is_of_journal s.journal q ≡ true → n q ≡ m q = λ q t. back q ∙ backs_own s o es m q by.keeps t in
    let file : (i : ℕ) → n (file_at s.journal i) ≡ m (file_at s.journal i) = λ i. own (file_at s.journal i) (own_file s.journal i) in
    subst (λ (k : ℕ). IsBackBut s o k n) is (record {
      entries = es;
      files = first_along s m n by.row.count es (λ i lt. file i) by.row.files;
      ends = file by.row.count ∙ by.row.ends;
      fresh = fresh_apart s.journal by.row.count o m n own by.fresh;
      known = by.known;
      keeps = by.keeps;
      same = λ q out. back q ∙ backs_first s o es m by q out;
    })

-- its last file could not be removed, or it was made all the same
pub remove_failed : (s : Spot) (o : Contents) (count : ℕ) (p : List ℕ) (t u : Trace) (m n : Contents) → count ≢ 0 → count < 2 ^ 64 → p ≡ file_at s.journal (count - 1) → MakesOrNot (removes p) t u m n → IsBackBut s o count m → StaysSafe s o t u m n
remove_failed s o count p t u m n some low is makes h =
    let one : count ≡ suc (count - 1) = omega (arith, some) in
    last_or_not s o (count - 1) t u m n (omega (arith, some, low)) (subst (λ (q : List ℕ). MakesOrNot (removes q) t u m n) is makes) (subst (λ (c : ℕ). IsBackBut s o c m) one h)

-- it was removed, and then the others
pub remove_went : (s : Spot) (o : Contents) (count : ℕ) (p : List ℕ) (t u v : Trace) (m n w : Contents) → count ≢ 0 → count < 2 ^ 64 → p ≡ file_at s.journal (count - 1) → Makes (removes p ∷ []) t u m n → IsBackBut s o count m → (IsBackBut s o (count - 1) n → StaysSafe s o u v n w) → StaysSafe s o t v m w
remove_went s o count p t u v m n w some low is makes h rest =
    let one : count ≡ suc (count - 1) = omega (arith, some) in
    let made : Makes (removes (file_at s.journal (count - 1)) ∷ []) t u m n = subst (λ (q : List ℕ). Makes (removes q ∷ []) t u m n) is makes in
    let but : IsBackBut s o (suc (count - 1)) m = subst (λ (c : ℕ). IsBackBut s o c m) one h in
    let less : suc (count - 1) < 2 ^ 64 = omega (arith, some, low) in
    stay_append (IsSafe s o) t u v m n w (last_or_not s o (count - 1) t u m n less (inr made) but) (rest (removed_last s o (count - 1) t u m n less made but))
