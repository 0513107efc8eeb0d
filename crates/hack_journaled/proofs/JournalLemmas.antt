-- What a call over files with a journal did, after the journal is removed.
use Rattle.std.proofs.Common.{◌≡◌, ◌⊎◌, ◌∙◌, ◌+◌, ◌-◌, ◌^◌, min, inl, inr, ap, arith, subst, sym, ℕ, false, List, None, [], ◌∷◌, ◌++◌}
use Rattle.std.proofs.lemmas.Bool.{cases_Bool, false≢true}
use Rattle.std.proofs.lemmas.List.{length-append}
use Rattle.std.proofs.lemmas.List.Elements.{Contains-append_left}
use Rattle.std.specs.Prelude.{All}
use Rattle.hack_base.specs.Counters.{GrowsBy}
use Rattle.hack_files.specs.Files.{Contents, KeepsAll, KeepsAllBut, Makes, Trace, by_kind}
use Rattle.hack_files.specs.declared.fs.Files.{Ghosts as Filing}
use Rattle.hack_journal.specs.LockfilesApart.{KeepsLockfiles, KeepsOtherFiles, apart, is_lockfile}
use Rattle.hack_journal.specs.FailedCalls.{CannotEnd}
use Rattle.hack_journal.specs.Journal.{Edit}
use Rattle.hack_journal.specs.SafeFiles.{AreBack, KeepFirst, trace_besides, without}
use Rattle.hack_journal.specs.Refusing.{AreJust, GrowsAsBoth, GrowsWithin, HoldsByKind, IsRefused, IsRefusedOrUnkept}
use Rattle.hack_journal.specs.RefusingLaws.{grows_more}
use Rattle.hack_journal.specs.Rows.{AreEach, KeepsBeside, Noted, RemovesOwn, Spot, file_at, is_of_journal}
use Rattle.hack_journal.specs.declared.unkept.Unkept.{Ghosts as Noting}
use Rattle.hack_journal.proofs.ApartLemmas.{files_kept}
use Rattle.hack_journal.proofs.FinishLemmas.{only_besides}
use Rattle.hack_journal.proofs.RowLemmas.{apart_from}
use Rattle.hack_journal.proofs.SafeLemmas.{without_at, without_same}
use Rattle.hack_load.specs.FilesAfterLoading.{LeavesFew}
use Rattle.hack_process.specs.Calls.{Call}
use Rattle.hack_run.specs.Standing.{EditsStand, ObeysAndEdits}
use Rattle.hack_words.specs.declared.cli.env.Env.{Env}
use Rattle.hack_words.specs.declared.cli.parse.Parsed.{Parsed}
use Rattle.hack_words.specs.declared.cli.parse.Parsed.TheVariants as parsed
use Rattle.hack_base.specs.Names.{Name}
use Rattle.hack_journaled.specs.Journals.{IsAccounted, IsAtEnd, IsWhyItStays, contents_seen}

-- a journal that can't be ended stays for this cause
pub why_it_stays : {F : Type 0} (f : Filing F) (spot : Spot) (first last : Contents) (noted : Noted) (old new : F) → spot.journal ≡ noted.journal
    → (f.tells → f.whole → first spot.journal ≡ None → AreEach spot (f.bytes_at old) 0 noted.entries) → IsAtEnd f spot.journal last old new → CannotEnd f noted old new → IsWhyItStays f spot first last
why_it_stays f spot first last noted old new named each ends (inl look) = inl (
  look.0,
  record {
    before = old;
    after = new;
    unseen = look.2.unseen;
    kept = elim look.1 [
      | inl at ↦ inl (at ∙ sym named)
      | inr one ↦ inr (λ tells whole absent. record { entries = noted.entries; each = each tells whole absent; one = one })
    ];
    at_end = ends;
  },
)
why_it_stays f spot first last noted old new named each ends (inr removal) = inr (record {
  before = old;
  after = new;
  place = removal.0;
  refused = subst (λ (j : List ℕ). f.refuses old new (file_at j removal.0 ∷ [])) (sym named) removal.2.refused;
  at_end = ends;
})

-- one more call failed at the end, or none
pub one_at_most : {Why : Type 0} (n m : ℕ) → ((m ≡ n) ⊎ ((m ≡ min (n + 1) (2 ^ 64 - 1)) × Why)) → (m ≡ n) ⊎ (m ≡ min (n + 1) (2 ^ 64 - 1))
one_at_most n m (inl same) = inl same
one_at_most n m (inr one) = inr one.0

-- where none failed before, that is the only one
pub only_end : {Why Stays : Type 0} (n m : ℕ) → n ≡ 0 → (Why → Stays) → ((m ≡ n) ⊎ ((m ≡ min (n + 1) (2 ^ 64 - 1)) × Why)) → (m ≡ 0) ⊎ ((m ≡ 1) × Stays)
only_end n m none turn (inl is) = inl (is ∙ none)
only_end n m none turn (inr one) = inr (omega (arith, one.0, none), turn one.1)

-- where the journal alone was changed the call sees the same, by the journal's first path too
pub seen_same : (first j : List ℕ) (k : ℕ) (m n last lockfiles : Contents) → first ≡ j → KeepsBeside j k m n → last ≡ n → apart (without j m) lockfiles ≡ contents_seen first last lockfiles
seen_same first j k m n last lockfiles named same is =
    ap (λ c. apart c lockfiles) (sym (without_same j m n (λ q out. same q (λ i lt. apart_from j i q out)))) ∙ ap (λ c. apart (without j c) lockfiles) (sym is) ∙ ap (λ k. apart (without k last) lockfiles) (sym named)

-- there no change is seen either
pub traced_same : (first j : List ℕ) (t u v last_trace : Trace) (m n last lockfiles : Contents) → first ≡ j → RemovesOwn j t u m n → last_trace ≡ u → last ≡ n
    → Makes [] (by_kind is_lockfile v (trace_besides j t)) (by_kind is_lockfile v (trace_besides first last_trace)) (apart (without j m) lockfiles) (contents_seen first last lockfiles)
traced_same first j t u v last_trace m n last lockfiles named removes same is = rw (named, same, is) (files_kept v (trace_besides j t) (trace_besides j u) lockfiles (without j m) (without j n) (only_besides j t u m n removes))

-- what is left of files where the removal of the journal may fail
pub leaves_end : (a b c : Contents) (n m : ℕ) → b ≡ c → ((m ≡ n) ⊎ (m ≡ min (n + 1) (2 ^ 64 - 1))) → LeavesFew (Unit {0}) a b 0 n → LeavesFew (Unit {0}) a c 0 m
leaves_end a b c n m same (inl none) left = record {
  spoilt = left.spoilt;
  failed = λ low. none ∙ left.failed low;
  others = λ u q fine. ap (λ (x : Contents). x q) (sym same) ∙ left.others u q fine;
}
leaves_end a b c n m same (inr one) left = let long = length-append left.spoilt ([] ∷ []) in record {
  spoilt = left.spoilt ++ [] ∷ [];
  failed = λ low. omega (arith, long, one, left.failed low);
  others = λ u q fine. ap (λ (x : Contents). x q) (sym same) ∙ left.others u q (λ bad. fine (Contains-append_left left.spoilt ([] ∷ []) q bad));
}

-- where no call failed, each path holds what it held
pub leaves_nothing : (a b : Contents) (n : ℕ) → n ≡ 0 → LeavesFew (Unit {0}) a b 0 n → KeepsAll a b
leaves_nothing a b n none left = λ q. left.others tt q (λ bad. absurd (omega (arith, none, left.failed (omega arith), bad.1)))

-- a count that ends at 0 was 0
pub none_before : (n m : ℕ) → m ≡ 0 → ((m ≡ n) ⊎ (m ≡ min (n + 1) (2 ^ 64 - 1))) → n ≡ 0
none_before n m none (inl same) = omega (arith, none, same)
none_before n m none (inr one) = absurd (omega (arith, none, one))

-- where a call sees the same, all paths but lockfiles hold what they held
pub others_same : (first mid before now : Contents) → KeepsAll (apart first before) (apart mid now) → KeepsOtherFiles first mid
others_same first mid before now all p other = elim (cases_Bool (is_lockfile p)) [ inl is ↦ absurd (other is) | inr off ↦ rw off at (all p) ]

-- a path that isn't set aside for the journal, where these do, and lockfiles are those of others
same_path : (j : List ℕ) (first mid : Contents) → KeepsOtherFiles (without j first) (without j mid) → KeepsLockfiles (without j first) (without j mid) → (p : List ℕ) → is_of_journal j p ≡ false → mid p ≡ first p
same_path j first mid others locks p ne = sym (without_at j mid p ne) ∙ same ∙ without_at j first p ne
  where
    same : without j mid p ≡ without j first p
    same = elim (cases_Bool (is_lockfile p)) [ inl is ↦ locks p is | inr off ↦ others p (λ is. false≢true (sym off ∙ is)) ]

-- then each entry's path holds what it held at first
pub entries_back : (j : List ℕ) (first mid : Contents) (es more : List Edit) → KeepFirst j first (es ++ more) → KeepsOtherFiles (without j first) (without j mid) → KeepsLockfiles (without j first) (without j mid) → AreBack es mid
entries_back j first mid [] more keeps others locks = tt
entries_back j first mid (e ∷ es) more keeps others locks = (same_path j first mid others locks e.path keeps.1 ∙ keeps.0, entries_back j first mid es more keeps.3 others locks)

-- a count of calls over two counts, and that over two others, with one that failed at the end
pub accounted : (f g h l m u v one two last : ℕ) → GrowsWithin f g u v 0 one → GrowsAsBoth 0 one l m 0 two → (k : ℕ) × GrowsBy k g h × GrowsBy k two last → IsAccounted f h l m u v last
accounted f g h l m u v one two last below both end = record {
  of_files = below.first + end.0;
  of_lockfiles = both.second;
  of_unkept = below.second;
  files = grows_more below.first end.0 f g h below.one end.1;
  lockfiles = both.two;
  unkept = below.two;
  most =
      let first = below.sum (omega arith) in
      let again = both.one (omega arith) in
      let second = both.sum (omega arith) in
      let third = end.2 (omega (arith, second)) in
      omega (arith, first, again, second, third, below.most);
  least =
      let first = below.sum (omega arith) in
      let again = both.one (omega arith) in
      let second = both.sum (omega arith) in
      let third = end.2 (omega (arith, second)) in
      omega (arith, first, again, second, third, below.least);
}

-- what was refused over a journal was refused below it, or couldn't be kept
pub refused_once : {A F U L : Type 0} (a : Filing A) (f : Filing F) (u : Noting U) (l : Filing L) (path : List ℕ) → ((x y : A) (ps : List (List ℕ)) → a.refuses x y ps → All (IsRefusedOrUnkept f u) ps) → HoldsByKind (IsRefused a) (IsRefused l) path → HoldsByKind (IsRefusedOrUnkept f u) (IsRefused l) path
refused_once a f u l path each r = record { files = λ other. let one = r.files other in each one.before one.after (path ∷ []) one.refused 0 path (omega arith); lockfiles = r.lockfiles }

-- what is spoilt where the removal of the journal may fail
pub spoilt_end : (P Q : List ℕ → Type 0) (tells : Type 0) (a b c : Contents) (n m : ℕ) → ((p : List ℕ) → P p → Q p) → (tells → b ≡ c) → ((m ≡ n) ⊎ (m ≡ min (n + 1) (2 ^ 64 - 1))) → KeepsAllBut (λ ps. AreJust P ps 0 n) tells a b → KeepsAllBut (λ ps. AreJust Q ps 0 m) tells a c
spoilt_end P Q tells a b c n m turn same more h = record {
  spoilt = h.spoilt;
  refused = record {
    each = λ k d lt. turn _ (h.refused.each k d lt);
    failed = λ low. let was = h.refused.failed low in elim more [ inl is ↦ (omega (arith, was.0, is), omega (arith, was.1, is)) | inr one ↦ (omega (arith, was.0, was.1, one), omega (arith, was.1, one)) ];
  };
  others = λ t q fine. ap (λ (x : Contents). x q) (sym (same t)) ∙ h.others t q fine;
}

-- edits that stood while files held one thing stood while they held what follows from it
pub edits_between : (P Q : Contents → Type 0) (tells talks : Type 0) (words : List Name) (env : Env) (held : Contents) (calls : List Call) → ((at : Contents) → P at → Q at)
    → EditsStand P tells talks words env held calls → EditsStand Q tells talks words env held calls
edits_between P Q tells talks words env held calls turn h = record { mid = h.mid; rustup = h.rustup; answer = h.answer; notes = h.notes; told = h.told; read = h.read; obeyed = go h.answer h.obeyed }
  where
    go : (answer : Parsed) → ObeysAndEdits P tells talks answer env held h.mid → ObeysAndEdits Q tells talks answer env held h.mid
    go (parsed.Args args) o = record { answers = o.answers; mid = o.mid; cx = o.cx; asked = o.asked; context = o.context; edits = record { at = o.edits.at; was = turn o.edits.at o.edits.was; stood = o.edits.stood } }
    go (parsed.Print text) o = tt
    go parsed.List o = tt
