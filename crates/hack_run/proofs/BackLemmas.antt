-- Files are restored.
use Rattle.std.proofs.Common.{◌≡◌, ◌+◌, ◌-◌, ◌<◌, ◌∙◌, ℕ, zero, suc, Bool, true, false, List, [], ◌++◌, Result, Ok, Err, IsOk, IsTrue, OnOk, length, replicate, arith, refl, sym, subst}
use Rattle.std.proofs.lemmas.List.{length-append, length-replicate}
use Rattle.std.proofs.lemmas.List.Elements.{Contains-append_left, Contains-append_right}
use Rattle.hack_base.specs.Names.{Name}
use Rattle.hack_files.specs.Files.{Contents, Grows, KeepsAll}
use Rattle.hack_base.specs.Counters.{GrowsBy}
use Rattle.hack_files.specs.Restore.{AreSafe, Brings, Kept, registered_files}
use Rattle.hack_files.specs.declared.restore.Manager.{Manager}
use Rattle.hack_files.proofs.RestoreLemmas.{grows_more}
use Rattle.hack_files.proofs.SafeLemmas.{safe_back, safe_none}
use Rattle.hack_load.specs.FilesAfterLoading.{LeavesFew}
use Rattle.hack_run.specs.TemporaryEdits.{IsClean}
use Rattle.hack_files.specs.View.{FilesView}

-- what questions leave, what is kept before it is written, and what is restored
pub leaves : (tells : Type 0) (files : List Kept) (first asked mid last : Contents) (k n m o r : ℕ) → tells → LeavesFew tells first asked k n → AreSafe files asked mid → Grows n m
    → GrowsBy r m o → Brings files mid last r → LeavesFew (Unit {0}) first last k o
leaves tells files first asked mid last k n m o r t left safe grows counted brings =
    let back = brings safe.distinct in
    let rest : List Name = back.0 ++ replicate (grows.0 + (r - length back.0)) [] in
    let long = length-append left.spoilt rest in
    let short = length-append back.0 (replicate (grows.0 + (r - length back.0)) []) in
    let fill = length-replicate {A = Name} (grows.0 + (r - length back.0)) [] in
    let count : (length left.spoilt + grows.0) + r ≡ length (left.spoilt ++ rest) = omega (arith, long, short, fill, back.1) in
    record {
      spoilt = left.spoilt ++ rest;
      failed = subst (λ c. GrowsBy c k o) count (grows_more (length left.spoilt + grows.0) r k m o (grows_more (length left.spoilt) grows.0 k n m left.failed grows.1) counted);
      others = λ _ q fine.
          safe_back files back.0 asked mid last safe back.2 q (λ bad. fine (Contains-append_right left.spoilt rest q (Contains-append_left back.0 _ q bad)))
          ∙ left.others t q (λ bad. fine (Contains-append_left left.spoilt rest q bad));
    }

-- nothing is kept yet
pub safe_new : (old new : Manager) (held : Contents) → registered_files old ≡ [] → registered_files new ≡ registered_files old → AreSafe (registered_files new) held held
safe_new old new held empty same = subst (λ l. AreSafe l held held) (sym (same ∙ empty)) (safe_none held)

-- nothing is restored
pub brings_none : (files : List Kept) (old new : Contents) (k : ℕ) → files ≡ [] → Brings files old new k → KeepsAll old new
brings_none files old new k empty brings =
    let b : Brings [] old new k = subst (λ l. Brings l old new k) empty brings in
    let back = (b (λ i j d lt within. absurd (omega (arith, within)))).2 in
    λ q. back.others q (λ h. absurd (omega (arith, h.1)))

-- where edits stay nothing is kept
pub kept_none : (first mid last : Manager) → registered_files first ≡ [] → registered_files mid ≡ registered_files first → registered_files last ≡ registered_files mid → registered_files last ≡ []
kept_none first mid last empty same kept = kept ∙ same ∙ empty

-- what a question that was answered leaves of the files
pub whole_keeps : {T E : Type 0} (tells : Type 0) (old new : Contents) (k n : ℕ) (r : Result T E) → OnOk r (GrowsBy 0 k n × (tells → KeepsAll old new)) → OnOk r (tells → KeepsAll old new)
whole_keeps tells old new k n (Ok v) h = h.1
whole_keeps tells old new k n (Err e) h = tt

-- no call of the files failed
counted_none : (n : ℕ) → GrowsBy 0 n n
counted_none n = λ low. omega (arith, low)

-- nothing was done to files
pub clean_none : (returns tells : Type 0) (files : FilesView) → IsClean returns tells files files
clean_none returns tells files = (counted_none files.failed, λ back t q. refl)

-- the same for what a call returned that touched no file
pub clean_rest : {T E : Type 0} (quiet returns tells : Type 0) (files : FilesView) (r : Result T E) → OnOk r (quiet → IsClean returns tells files files)
clean_rest quiet returns tells files (Ok v) = λ q. clean_none returns tells files
clean_rest quiet returns tells files (Err e) = tt

-- what is clean under a condition is clean under a stronger one
pub clean_by : {T E : Type 0} (P Q quiet tells : Type 0) (old new : FilesView) (r : Result T E) → (Q → P) → OnOk r (quiet → IsClean P tells old new) → OnOk r (quiet → IsClean Q tells old new)
clean_by P Q quiet tells old new (Ok v) f h = λ q. let c = h q in (c.0, λ back. c.1 (f back))
clean_by P Q quiet tells old new (Err e) f h = tt

-- a count that is reported where it is above 0 is 0 where nothing is reported
pub none_told : (b : Bool) (r : ℕ) → (0 < r → IsTrue b) → b ≡ false → r ≡ 0
none_told true r told quiet = absurd (cc)
none_told false zero told quiet = refl
none_told false (suc r) told quiet = let t : IsTrue false = told (omega arith) in absurd (cc)

-- where no error was returned, all was loaded and no call of the files failed
pub counted_ok : {T E U G : Type 0} (came : Result T E) (loaded : Result U G) (u : U) (n m : ℕ) → loaded ≡ Ok u → GrowsBy 0 n m → OnOk came (IsOk loaded × GrowsBy 0 n m)
counted_ok (Ok v) (Ok w) u n m is counted = (refl, counted)
counted_ok (Ok v) (Err g) u n m is counted = absurd (cc)
counted_ok (Err e) loaded u n m is counted = tt

-- where all was loaded, edited and restored, and no call of the files failed
pub cleans : {T E U G : Type 0} (tells returns : Type 0) (came : Result T E) (loaded : Result U G) (files : List Kept) (first asked mid last : FilesView) (r : ℕ) (error : Bool)
    → OnOk loaded (GrowsBy 0 first.failed asked.failed × (tells → KeepsAll first.held asked.held)) → OnOk came (IsOk loaded × GrowsBy 0 asked.failed mid.failed)
    → (returns → tells → AreSafe files asked.held mid.held) → GrowsBy r mid.failed last.failed → (0 < r → IsTrue error) → (tells → Brings files mid.held last.held r)
    → OnOk came (error ≡ false → IsClean returns tells first last)
cleans tells returns (Err e) loaded files first asked mid last r error whole counted safe back told brings = tt
cleans tells returns (Ok v) (Err g) files first asked mid last r error whole counted safe back told brings = absurd (cc)
cleans tells returns (Ok v) (Ok u) files first asked mid last r error whole counted safe back told brings = λ quiet.
    let none : r ≡ 0 = none_told error r told quiet in
    let last_counted : GrowsBy 0 mid.failed last.failed = subst (λ c. GrowsBy c mid.failed last.failed) none back in (
      grows_more 0 0 first.failed mid.failed last.failed (grows_more 0 0 first.failed asked.failed mid.failed whole.0 counted.1) last_counted,
      λ returned t q.
          let are = safe returned t in
          let lost = brings t are.distinct in
          safe_back files lost.0 asked.held mid.held last.held are lost.2 q (λ bad. absurd (omega (arith, bad.1, lost.1, none))) ∙ whole.1 t q,
    )
