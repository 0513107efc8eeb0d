-- Files are written back, one after another.
use Rattle.std.proofs.Common.{◌≡◌, ◌≢◌, ◌⊎◌, inl, inr, ℕ, suc, zero, ◌+◌, ◌<◌, ◌≤◌, List, [], ◌∷◌, ◌++◌, Some, length, map, take, refl, sym, ◌∙◌, arith, subst, ap, below_more, append-nil, length-append, Bool, true, IsTrue, ◌↔◌}
use Rattle.std.specs.Prelude.{Contains, slice_index_or}
use Rattle.std.proofs.lemmas.List.{get_or-map, take_more, length-map}
use Rattle.std.proofs.lemmas.List.Elements.{Contains-append_left, Contains-append_right}
use Rattle.hack_files.specs.declared.saved.Saved.{Saved}
use Rattle.hack_files.specs.Files.{Change, Contents, KeepsOthers, Makes, MakesOrNot, Trace}
use Rattle.hack_base.specs.Counters.{GrowsBy}
use Rattle.hack_files.specs.Restore.{Kept, kept_file, paths, Brings, ComesBackBut, AreDistinct, Tried, none, written, failed, made_and_failed, write_of}
use Rattle.hack_files.specs.TraceLaws.{makes_more, makes_none, makes_still}

-- a count that goes up by a, and then by b, goes up by a + b
pub grows_more : (a b x y z : ℕ) → GrowsBy a x y → GrowsBy b y z → GrowsBy (a + b) x z
grows_more a b x y z f g = λ low. let first = f low in let second = g (omega (arith, first)) in omega (arith, first, second)

-- the path of the file at j
abbrev pub path_at : List Kept → ℕ → Kept → List ℕ
path_at files j d = (slice_index_or files j d).path

-- the path of the file at j holds the file's bytes, or is one of `spoilt`
abbrev pub IsBack : List Kept → List (List ℕ) → Contents → ℕ → Type 0
IsBack files spoilt new j = (d : Kept) → j < length files → Contains spoilt (path_at files j d) ⊎ (new (path_at files j d) ≡ Some (slice_index_or files j d).bytes)

-- the first i files are back, but for paths of `spoilt`; every other path holds what it held
pub record BackTo (files : List Kept) (i : ℕ) (spoilt : List (List ℕ)) (old new : Contents) : Type 0 where
  pub held : (j : ℕ) → j < i → IsBack files spoilt new j
  pub others : (q : List ℕ) → ((j : ℕ) (d : Kept) → j < i → j < length files → q ≢ path_at files j d) → new q ≡ old q

-- after the first i files as many writes were refused as failed: those of `spoilt`, of which `Refuses`
-- holds; where the paths are distinct, all but these are back
pub record BackBut (Refuses : List (List ℕ) → Type 0) (tells : Type 0) (files : List Kept) (i failures : ℕ) (old new : Contents) : Type 0 where
  pub spoilt : List (List ℕ)
  pub refused : Refuses spoilt
  pub number : length spoilt ≡ failures
  pub back : tells → AreDistinct files → BackTo files i spoilt old new

-- the file at i is this one, whatever the default of `slice_index_or` is
abbrev pub IsAt : List Kept → ℕ → Kept → Type 0
IsAt files i file = (d : Kept) → slice_index_or files i d ≡ file

pub is_at : (saved : List Saved) (i : ℕ) (file : Saved) → i < length saved → file ≡ slice_index_or saved i file → IsAt (map kept_file saved) i (kept_file file)
is_at saved i file lt is d = get_or-map kept_file saved i file d lt ∙ ap kept_file (sym is)

pub contains_path : (files : List Kept) (j : ℕ) (d : Kept) (q : List ℕ) → j < length files → q ≡ path_at files j d → Contains (paths files) q
contains_path [] j d q lt is = absurd (omega (arith, lt))
contains_path (x ∷ xs) zero d q lt is = (zero, omega arith, sym is)
contains_path (x ∷ xs) (suc j) d q lt is = Contains-append_right (x.path ∷ []) (paths xs) q (contains_path xs j d q (omega (arith, lt)) is)

-- an earlier file that is back stays back when this one is written
pub still : (files : List Kept) (i j : ℕ) (file : Kept) (spoilt : List (List ℕ)) (mid new : Contents) → AreDistinct files → i < length files → IsAt files i file
    → KeepsOthers file.path mid new → j < i → IsBack files spoilt mid j → IsBack files spoilt new j
still files i j file spoilt mid new distinct lt at keeps before here =
    λ d within.
    let differ : path_at files j d ≢ file.path = let P : Kept → Type 0 = λ f. path_at files j d ≢ f.path in subst P (at d) (distinct j i d before lt) in
    elim (here d within) [ inl bad ↦ inl bad | inr good ↦ inr (keeps _ differ ∙ good) ]

-- paths of none of the first i + 1 files hold what they held
pub others_more : (files : List Kept) (i : ℕ) (file : Kept) (old mid new : Contents) → i < length files → IsAt files i file → KeepsOthers file.path mid new
    → ((q : List ℕ) → ((j : ℕ) (d : Kept) → j < i → j < length files → q ≢ path_at files j d) → mid q ≡ old q)
    → (q : List ℕ) → ((j : ℕ) (d : Kept) → j < i + 1 → j < length files → q ≢ path_at files j d) → new q ≡ old q
others_more files i file old mid new lt at keeps before q absent =
    let differ : q ≢ file.path = let P : Kept → Type 0 = λ f. q ≢ f.path in subst P (at file) (absent i file (omega arith) lt) in
    keeps q differ ∙ before q (λ j d h. absent j d (omega arith))

-- after one more write, which succeeds
abbrev pub back_written : (R S : List (List ℕ) → Type 0) (tells : Type 0) (files : List Kept) (i failures : ℕ) (file : Kept) (old mid new : Contents) → i < length files → IsAt files i file
    → ((ps : List (List ℕ)) → R ps → S (ps ++ [])) → (tells → KeepsOthers file.path mid new) → (tells → new file.path ≡ Some file.bytes)
    → BackBut R tells files i failures old mid → BackBut S tells files (i + 1) failures old new
back_written R S tells files i failures file old mid new lt at more keeps is b = record {
  spoilt = b.spoilt;
  refused = subst S (append-nil b.spoilt) (more b.spoilt b.refused);
  number = b.number;
  back = λ t distinct.
      let to = b.back t distinct in
      record {
        held = below_more _ _ (λ j h. still files i j file b.spoilt mid new distinct lt at (keeps t) h (to.held j h))
            (λ d within. let P : Kept → Type 0 = λ f. Contains b.spoilt f.path ⊎ (new f.path ≡ Some f.bytes) in subst P (sym (at d)) (inr (is t)));
        others = others_more files i file old mid new lt at (keeps t) to.others;
      };
}

-- after one more write, which is refused
abbrev pub back_refused : (R S : List (List ℕ) → Type 0) (tells : Type 0) (files : List Kept) (i failures : ℕ) (file : Kept) (old mid new : Contents) → i < length files → IsAt files i file
    → ((ps : List (List ℕ)) → R ps → S (ps ++ file.path ∷ [])) → (tells → KeepsOthers file.path mid new)
    → BackBut R tells files i failures old mid → BackBut S tells files (i + 1) (failures + 1) old new
back_refused R S tells files i failures file old mid new lt at more keeps b =
    let spoilt : List (List ℕ) = b.spoilt ++ file.path ∷ [] in
    let also : (j : ℕ) → IsBack files b.spoilt new j → IsBack files spoilt new j = λ j h d within. elim (h d within) [ inl bad ↦ inl (Contains-append_left b.spoilt (file.path ∷ []) _ bad) | inr good ↦ inr good ] in
    record {
      spoilt = spoilt;
      refused = more b.spoilt b.refused;
      number = omega (arith, length-append b.spoilt (file.path ∷ []), b.number);
      back = λ t distinct.
          let to = b.back t distinct in
          record {
            held = below_more _ _ (λ j h. also j (still files i j file b.spoilt mid new distinct lt at (keeps t) h (to.held j h)))
                (λ d within. let P : Kept → Type 0 = λ f. Contains spoilt f.path ⊎ (new f.path ≡ Some f.bytes) in subst P (sym (at d)) (inl (Contains-append_right b.spoilt (file.path ∷ []) file.path (zero, omega arith, refl))));
            others = others_more files i file old mid new lt at (keeps t) to.others;
          };
    }

-- nothing is written yet
abbrev pub back_none : (R : List (List ℕ) → Type 0) (tells : Type 0) (files : List Kept) (old : Contents) → R [] → BackBut R tells files 0 0 old old
back_none R tells files old none_refused = record {
  spoilt = [];
  refused = none_refused;
  number = refl;
  back = λ _ _. record { held = λ j lt. absurd (omega (arith, lt)); others = λ q absent. refl };
}

-- all files are written
abbrev pub back_all : (R : List (List ℕ) → Type 0) (tells : Type 0) (files : List Kept) (i failures : ℕ) (old new : Contents) → length files ≤ i
    → BackBut R tells files i failures old new → ComesBackBut R tells files old new failures
back_all R tells files i failures old new end b = record {
  spoilt = b.spoilt;
  refused = b.refused;
  number = b.number;
  back = λ t distinct.
      let to = b.back t distinct in
      record {
        held = λ j d within. to.held j (omega arith) d within;
        others = λ q absent. to.others q (λ j d h within is. absent (contains_path files j d q within is));
      };
}

pub brings_of : (R : List (List ℕ) → Type 0) (tells : Type 0) (files : List Kept) (old new : Contents) (k : ℕ) → ComesBackBut R tells files old new k → tells → Brings files old new k
brings_of R tells files old new k b t distinct = (b.spoilt, omega (arith, b.number), b.back t distinct)

-- the writes of the first i files were tried, and k failed
abbrev pub TriedTo : List Kept → ℕ → ℕ → Trace → Trace → Contents → Contents → Type 0
TriedTo files i k old_trace new_trace old new = (made : List Change) × Tried (take i files) made k × Makes made old_trace new_trace old new

pub tried_none : (files : List Kept) (s : Trace) (old : Contents) → TriedTo files 0 0 s s old old
tried_none files s old = ([], none, makes_none s old)

pub one_more : (files : List Kept) (i : ℕ) (file : Kept) → i < length files → IsAt files i file → take (i + 1) files ≡ take i files ++ file ∷ []
one_more files i file lt at = take_more files i file lt ∙ ap (λ f. take i files ++ f ∷ []) (at file)

pub tried_written : (files : List Kept) (i k : ℕ) (file : Kept) (s t u : Trace) (old mid new : Contents) → i < length files → IsAt files i file
    → Makes (write_of file ∷ []) t u mid new → TriedTo files i k s t old mid → TriedTo files (i + 1) k s u old new
tried_written files i k file s t u old mid new lt at makes b =
    let P : List Kept → Type 0 = λ l. Tried l (b.0 ++ write_of file ∷ []) k in
    (b.0 ++ write_of file ∷ [], subst P (sym (one_more files i file lt at)) (written file b.1), makes_more b.0 (write_of file ∷ []) s t u old mid new b.2 makes)

pub tried_failed : (files : List Kept) (i k : ℕ) (file : Kept) (s t u : Trace) (old mid new : Contents) → i < length files → IsAt files i file
    → MakesOrNot (write_of file) t u mid new → TriedTo files i k s t old mid → TriedTo files (i + 1) (k + 1) s u old new
tried_failed files i k file s t u old mid new lt at makes b =
    let P : List Change → List Kept → Type 0 = λ cs l. Tried l cs (k + 1) in
    elim makes [
      | inl left ↦ (b.0, subst (P b.0) (sym (one_more files i file lt at)) (failed file b.1), makes_still b.0 s t u old mid new b.2 left)
      | inr made ↦ (b.0 ++ write_of file ∷ [], subst (P (b.0 ++ write_of file ∷ [])) (sym (one_more files i file lt at)) (made_and_failed file b.1), makes_more b.0 (write_of file ∷ []) s t u old mid new b.2 made)
    ]

-- whether an error is noted: at first, after a write that fails, and after one that succeeds
pub noted_none : (error : Bool) → IsTrue error ↔ (IsTrue error ⊎ (0 < 0))
noted_none error = (λ h. inl h, λ h. elim h [ inl e ↦ e | inr lt ↦ absurd (omega (arith, lt)) ])

pub below_kept : (saved : List Saved) (i : ℕ) → i < length saved → i < length (map kept_file saved)
below_kept saved i lt = let P : ℕ → Type 0 = λ n. i < n in subst P (sym (length-map saved kept_file)) lt

pub end_kept : (saved : List Saved) (i : ℕ) → length saved ≤ i → length (map kept_file saved) ≤ i
end_kept saved i le = let P : ℕ → Type 0 = λ n. n ≤ i in subst P (sym (length-map saved kept_file)) le

pub noted_failed : (was now : Bool) (k : ℕ) → now ≡ true → IsTrue now ↔ (IsTrue was ⊎ (0 < k + 1))
noted_failed was now k e = (λ _. inr (omega arith), λ _. e)

pub noted_written : (was mid now : Bool) (k : ℕ) → now ≡ mid → IsTrue mid ↔ (IsTrue was ⊎ (0 < k)) → IsTrue now ↔ (IsTrue was ⊎ (0 < k))
noted_written was mid now k e h = let P : Bool → Type 0 = λ b. IsTrue b ↔ (IsTrue was ⊎ (0 < k)) in subst P (sym e) h

pub grows_still : (a x y z : ℕ) → GrowsBy a x y → GrowsBy 0 y z → GrowsBy a x z
grows_still a x y z f g = λ low. let first = f low in let second = g (omega (arith, first)) in omega (arith, first, second)
