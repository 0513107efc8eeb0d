-- What a single call adds to the refused paths and to the counts.
use Rattle.std.proofs.Common.{refl, ◌≡◌, ◌≢◌, ◌∙◌, ◌⊎◌, inl, inr, ap, sym, subst, Bool, true, false, get_or, ℕ, List, [], ◌∷◌, ◌+◌, Option, None, Result, Ok, Err, OnErr, IsTrue, arith, if◌then◌else◌}
use Rattle.std.proofs.lemmas.Bool.{false≢true}
use Rattle.std.proofs.lemmas.List.Elements.{All-nil}
use Rattle.hack_base.specs.Counters.{GrowsBy}
use Rattle.hack_files.specs.Files.{Contents, CountsFailedCall, Grows, IsUnseenUnlessAbsent, refused_path}
use Rattle.hack_files.specs.declared.fs.Files.{Ghosts as Filing}
use Rattle.hack_journal.specs.LockfilesApart.{apart, is_lockfile}
use Rattle.hack_journal.specs.Refusing.{AreJust, GrowsAsBoth, GrowsWithin, IsCounted, HoldsByKind, IsRefused, IsUnseenOrUntold, UnseenByKind}
use Rattle.hack_journal.specs.RefusingLaws.{grows_more, grows_none}

-- some calls failed, and then some
pub grow_more : (x y z : ℕ) → Grows x y → Grows y z → Grows x z
grow_more x y z f g = (f.0 + g.0, grows_more f.0 g.0 x y z f.1 g.1)

-- a call that only looks refuses nothing, whatever comes of it
pub just_grown : (P : List ℕ → Type 0) (k x y : ℕ) → GrowsBy k x y → AreJust P [] x y
just_grown P k x y h = record { each = All-nil P; failed = λ low. let now = h low in (omega (arith, now), omega (arith, now)) }

pub just_looks : {T E : Type 0} (P : List ℕ → Type 0) (r : Result T E) (x y : ℕ) → CountsFailedCall x y r → AreJust P [] x y
just_looks P (Ok v) x y h = just_grown P 0 x y h
just_looks P (Err e) x y h = just_grown P 1 x y h

pub just_one : (P : List ℕ → Type 0) (path : List ℕ) (x y : ℕ) → GrowsBy 1 x y → P path → AreJust P (path ∷ []) x y
just_one P path x y h p = record { each = λ k d lt. let first : 0 ≡ k = omega (arith, lt) in subst (λ (i : ℕ). P (get_or (path ∷ []) i d)) first p; failed = λ low. let now = h low in (omega (arith, now), omega (arith, now)) }

-- a call that fails refuses its path
pub just_refused : {T E : Type 0} (P : List ℕ → Type 0) (path : List ℕ) (r : Result T E) (x y : ℕ) → CountsFailedCall x y r → OnErr r (P path) → AreJust P (refused_path r path) x y
just_refused P path (Ok v) x y h p = just_grown P 0 x y h
just_refused P path (Err e) x y h p = just_one P path x y h p

-- ---- unseen paths

-- a read over other files: what they leave unseen, or doesn't exist, is left unseen, or doesn't exist
pub just_read : {T E : Type 0} (P : List ℕ → Type 0) (U : List (List ℕ) → Type 0) (tells own : Type 0) (below held : Option (List ℕ)) (path : List ℕ) (r : Result T E) (x y : ℕ) → CountsFailedCall x y r
    → IsUnseenUnlessAbsent U tells below path r → (U (path ∷ []) → P path) → (tells → below ≡ None → (own × (held ≡ None)) ⊎ P path) → IsUnseenUnlessAbsent (λ ps. AreJust P ps x y) own held path r
just_read P U tells own below held path (Ok v) x y h under turn absent = just_grown P 0 x y h
just_read P U tells own below held path (Err e) x y h (inl u) turn absent = inl (just_one P path x y h (turn u))
just_read P U tells own below held path (Err e) x y h (inr (u, t, none)) turn absent = elim (absent t none) [
  | inl both ↦ inr (just_grown P 1 x y h, both.0, both.1)
  | inr p ↦ inl (just_one P path x y h p)
]

-- a look over other files
pub unseen_below : {F T E : Type 0} (tells : Type 0) (f : Filing F) (path : List ℕ) (r : Result T E) (old new : F) → f.unseen old new (refused_path r path) → OnErr r (IsUnseenOrUntold tells f path)
unseen_below tells f path (Ok v) old new h = tt
unseen_below tells f path (Err e) old new h = inl (record { before = old; after = new; unseen = h })

-- by the files that the path goes to
by_lockfiles : {A B : Type 0} (a : Filing A) (b : Filing B) (path : List ℕ) → true ≡ is_lockfile path → IsUnseenOrUntold (a.tells × b.tells) b path → UnseenByKind a b path
by_lockfiles a b path is h = record { files = λ other. absurd (other (sym is)); lockfiles = λ lock. h }

by_others : {A B : Type 0} (a : Filing A) (b : Filing B) (path : List ℕ) → false ≡ is_lockfile path → IsUnseenOrUntold (a.tells × b.tells) a path → UnseenByKind a b path
by_others a b path is h = record { files = λ other. h; lockfiles = λ lock. absurd (false≢true (is ∙ lock)) }

pub unseen_lockfile : {A B T E : Type 0} (a : Filing A) (b : Filing B) (path : List ℕ) (r : Result T E) (old new : B) → true ≡ is_lockfile path → b.unseen old new (refused_path r path) → OnErr r (UnseenByKind a b path)
unseen_lockfile a b path (Ok v) old new is h = tt
unseen_lockfile a b path (Err e) old new is h = by_lockfiles a b path is (inl (record { before = old; after = new; unseen = h }))

pub unseen_other : {A B T E : Type 0} (a : Filing A) (b : Filing B) (path : List ℕ) (r : Result T E) (old new : A) → false ≡ is_lockfile path → a.unseen old new (refused_path r path) → OnErr r (UnseenByKind a b path)
unseen_other a b path (Ok v) old new is h = tt
unseen_other a b path (Err e) old new is h = by_others a b path is (inl (record { before = old; after = new; unseen = h }))

pub read_lockfile : {A B T E : Type 0} (a : Filing A) (b : Filing B) (path : List ℕ) (r : Result T E) (files : Contents) (old new : B) (x y : ℕ) → true ≡ is_lockfile path → CountsFailedCall x y r
    → IsUnseenUnlessAbsent (b.unseen old new) b.tells (b.bytes_at old path) path r → IsUnseenUnlessAbsent (λ ps. AreJust (UnseenByKind a b) ps x y) (a.tells × b.tells) (apart files (b.bytes_at old) path) path r
read_lockfile a b path r files old new x y is counted h =
    just_read (UnseenByKind a b) (b.unseen old new) b.tells (a.tells × b.tells) (b.bytes_at old path) _ path r x y counted h (λ u. by_lockfiles a b path is (inl (record { before = old; after = new; unseen = u })))
    (λ t none. elim a.tells_or_not [
      | inl s ↦ inl ((s, t), ap (λ (k : Bool). if k then b.bytes_at old path else files path) (sym is) ∙ none)
      | inr never ↦ inr (by_lockfiles a b path is (inr (λ both. never both.0)))
    ])

pub read_other : {A B T E : Type 0} (a : Filing A) (b : Filing B) (path : List ℕ) (r : Result T E) (lockfiles : Contents) (old new : A) (x y : ℕ) → false ≡ is_lockfile path → CountsFailedCall x y r
    → IsUnseenUnlessAbsent (a.unseen old new) a.tells (a.bytes_at old path) path r → IsUnseenUnlessAbsent (λ ps. AreJust (UnseenByKind a b) ps x y) (a.tells × b.tells) (apart (a.bytes_at old) lockfiles path) path r
read_other a b path r lockfiles old new x y is counted h =
    just_read (UnseenByKind a b) (a.unseen old new) a.tells (a.tells × b.tells) (a.bytes_at old path) _ path r x y counted h (λ u. by_others a b path is (inl (record { before = old; after = new; unseen = u })))
    (λ t none. elim b.tells_or_not [
      | inl s ↦ inl ((t, s), ap (λ (k : Bool). if k then lockfiles path else a.bytes_at old path) (sym is) ∙ none)
      | inr never ↦ inr (by_others a b path is (inr (λ both. never both.1)))
    ])

pub within_first : {T E : Type 0} (r : Result T E) (a b x u v : ℕ) → CountsFailedCall a b r → CountsFailedCall u v r → GrowsWithin a b x x u v
within_first (Ok e) a b x u v f g = record { first = 0; second = 0; both = 0; one = f; two = grows_none x; sum = g; most = omega arith; least = omega arith }
within_first (Err e) a b x u v f g = record { first = 1; second = 0; both = 1; one = f; two = grows_none x; sum = g; most = omega arith; least = omega arith }

-- a call of two that is counted by the one that it goes to
pub both_first : {T E : Type 0} (r : Result T E) (a b x u v : ℕ) → CountsFailedCall a b r → CountsFailedCall u v r → GrowsAsBoth a b x x u v
both_first (Ok e) a b x u v f g = record { first = 0; second = 0; one = f; two = grows_none x; sum = g }
both_first (Err e) a b x u v f g = record { first = 1; second = 0; one = f; two = grows_none x; sum = g }

pub both_second : {T E : Type 0} (r : Result T E) (a x y u v : ℕ) → CountsFailedCall x y r → CountsFailedCall u v r → GrowsAsBoth a a x y u v
both_second (Ok e) a x y u v f g = record { first = 0; second = 0; one = grows_none a; two = f; sum = g }
both_second (Err e) a x y u v f g = record { first = 0; second = 1; one = grows_none a; two = f; sum = g }

-- a call that is counted by one of two counts
pub within_counted : {T E : Type 0} (r : Result T E) (a b x y u v : ℕ) → IsCounted r a b x y → CountsFailedCall u v r → GrowsWithin a b x y u v
within_counted (Ok e) a b x y u v f g = record { first = f.first; second = f.second; both = 0; one = f.one; two = f.two; sum = g; most = omega arith; least = omega (arith, f.once) }
within_counted (Err e) a b x y u v f g = record { first = f.first; second = f.second; both = 1; one = f.one; two = f.two; sum = g; most = f.some; least = f.once }

-- by the files that the path goes to
pub refused_lockfile : {A B T E : Type 0} (a : Filing A) (b : Filing B) (path : List ℕ) (r : Result T E) (old new : B) → true ≡ is_lockfile path → b.refuses old new (refused_path r path) → OnErr r (HoldsByKind (IsRefused a) (IsRefused b) path)
refused_lockfile a b path (Ok v) old new is h = tt
refused_lockfile a b path (Err e) old new is h = record { files = λ other. absurd (other (sym is)); lockfiles = λ lock. record { before = old; after = new; refused = h } }

pub refused_other : {A B T E : Type 0} (a : Filing A) (b : Filing B) (path : List ℕ) (r : Result T E) (old new : A) → false ≡ is_lockfile path → a.refuses old new (refused_path r path) → OnErr r (HoldsByKind (IsRefused a) (IsRefused b) path)
refused_other a b path (Ok v) old new is h = tt
refused_other a b path (Err e) old new is h = record { files = λ other. record { before = old; after = new; refused = h }; lockfiles = λ lock. absurd (false≢true (is ∙ lock)) }

-- a lockfile is at another path than a file that is none
pub other_lockfile : (path q : List ℕ) → false ≡ is_lockfile path → IsTrue (is_lockfile q) → q ≢ path
other_lockfile path q is lock same = false≢true (is ∙ sym (ap is_lockfile same) ∙ lock)

pub other_file : (path q : List ℕ) → true ≡ is_lockfile path → ¬ IsTrue (is_lockfile q) → q ≢ path
other_file path q is other same = other (ap is_lockfile same ∙ sym is)

-- after calls that only looked, a call that the first of two counts counts
pub counted_below : {T E : Type 0} (r : Result T E) (a b c x y : ℕ) → Grows a b → CountsFailedCall b c r → y ≡ x → IsCounted r a c x y
counted_below (Ok v) a b c x y f g same = record { first = f.0 + 0; second = 0; one = grows_more f.0 0 a b c f.1 g; two = λ low. omega (arith, low, same); some = tt; once = refl }
counted_below (Err e) a b c x y f g same = record { first = f.0 + 1; second = 0; one = grows_more f.0 1 a b c f.1 g; two = λ low. omega (arith, low, same); some = omega arith; once = omega arith }
