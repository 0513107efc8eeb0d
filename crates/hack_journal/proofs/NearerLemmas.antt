-- What is put back only brings paths nearer to what they held at first.
use Rattle.std.proofs.Common.{◌≡◌, ◌≢◌, ◌-◌, inl, inr, ℕ, List, [], refl, ◌∙◌, ap, arith}
use Rattle.hack_files.specs.Files.{Contents, Makes, MakesOrNot, Trace, removes}
use Rattle.hack_files.proofs.FilesLemmas.{changed_other}
use Rattle.hack_journal.specs.Journal.{Edit}
use Rattle.hack_journal.specs.Rows.{Spot, IsRowRead, KeepsBeside, file_at}
use Rattle.hack_journal.specs.SafeFiles.{AfterEachFront, KeepFirst, first_entry_of}
use Rattle.hack_journal.specs.SafeLaws.{stay_append, stay_none}
use Rattle.hack_journal.specs.Recovery.{AreOfCall, ComesNearer}
use Rattle.hack_journal.specs.Internal.{NearsBeside, PutsBack}
use Rattle.hack_journal.proofs.RecoverLemmas.{at_end, origin, origin_cases, origin_keeps}
use Rattle.hack_journal.proofs.SafeLemmas.{stay_one, stay_wider}

-- P holds after each front of some changes, and then of others
pub fronts_then : (P Q : Contents → Type 0) (t u v : Trace) (m n w : Contents) → (P n → (x : Contents) → Q x → P x) → AfterEachFront P t u m n → AfterEachFront Q u v n w → AfterEachFront P t v m w
fronts_then P Q t u v m n w step f g = stay_append P t u v m n w f (stay_wider u v n w (step (at_end P t u m n f)) g)

-- ---- the row is removed

-- its last file was removed, or it wasn't
pub beside_or_not : (j p : List ℕ) (count : ℕ) (t u : Trace) (m n : Contents) → count ≢ 0 → p ≡ file_at j (count - 1) → MakesOrNot (removes p) t u m n → AfterEachFront (KeepsBeside j count m) t u m n
beside_or_not j p count t u m n some is makes = elim makes [
  | inl none ↦ stay_none (KeepsBeside j count m) t u m n none (λ q out. refl)
  | inr made ↦ stay_one (KeepsBeside j count m) (removes p) t u m n made (λ q out. refl)
      (λ q out. ap (λ (x : Contents). x q) made.holds ∙ changed_other (removes p) m q (λ e. out (count - 1) (omega (arith, some)) (e ∙ is)))
]

-- and then the others
pub beside_then : (j : List ℕ) (count : ℕ) (t u v : Trace) (m n w : Contents) → AfterEachFront (KeepsBeside j count m) t u m n → AfterEachFront (KeepsBeside j (count - 1) n) u v n w → AfterEachFront (KeepsBeside j count m) t v m w
beside_then j count t u v m n w = fronts_then (KeepsBeside j count m) (KeepsBeside j (count - 1) n) t u v m n w (λ near x keeps q out. keeps q (λ i lt. out i (omega (arith, lt))) ∙ near q out)

-- ---- all is put back

pub nears_beside : (j : List ℕ) (count : ℕ) (o : Contents) (t u : Trace) (m n : Contents) → PutsBack j o t u m n → AfterEachFront (NearsBeside j count o m) t u m n
nears_beside j count o t u m n = stay_wider t u m n (λ x near q out. elim (near q) [ inl same ↦ inl same | inr back ↦ inr back.1 ])

-- and then the row is removed
pub nears_removed : (j : List ℕ) (count : ℕ) (o : Contents) (t u v : Trace) (m n w : Contents) → PutsBack j o t u m n → AfterEachFront (KeepsBeside j count n) u v n w → AfterEachFront (NearsBeside j count o m) t v m w
nears_removed j count o t u v m n w f = fronts_then (NearsBeside j count o m) (KeepsBeside j count n) t u v m n w
    (λ near x keeps q out. elim (near q out) [ inl same ↦ inl (keeps q out ∙ same) | inr back ↦ inr (keeps q out ∙ back) ]) (nears_beside j count o t u m n f)

-- ---- the whole call

pub nearer_still : (s : Spot) (t u : Trace) (m n : Contents) → Makes [] t u m n → AfterEachFront (ComesNearer s m) t u m n
nearer_still s t u m n makes = stay_none (ComesNearer s m) t u m n makes (inl (λ q. refl))

-- after looks that changed nothing
pub nearer_by : (s : Spot) (count : ℕ) (es : List Edit) (t u v : Trace) (m n w : Contents) → IsRowRead s m count es → AreOfCall s.journal es es → Makes [] t u m n
    → ((o : Contents) → KeepFirst s.journal o es → AfterEachFront (NearsBeside s.journal count o n) u v n w) → AfterEachFront (ComesNearer s m) t v m w
nearer_by s count es t u v m n w read call looks near = stay_append (ComesNearer s m) t u v m n w (nearer_still s t u m n looks)
    (stay_wider u v n w
    (λ x h. inr (
      es,
      record { count = count; files = read.files.files; ends = read.ends },
      λ q out. elim (h q out) [
        | inl same ↦ inl (same ∙ ap (λ (y : Contents). y q) looks.holds)
        | inr back ↦ origin_cases (first_entry_of es q) (m q) (x q) back
      ],
    ))
    (near (origin es m) (origin_keeps s.journal es m call)))
