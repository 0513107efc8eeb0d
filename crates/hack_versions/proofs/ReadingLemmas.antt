-- How the texts of versions and ranges are read, where a contract says how they are written.
use Rattle.std.proofs.Common.{◌≡◌, ◌≢◌, ◌⊎◌, inl, inr, ℕ, ◌==◌, ◌++◌, List, [], ◌∷◌, Bool, true, false, drop, nat_eq, codes, Option, Some, None, Result, Ok, Err, IsTrue, IsSomeAnd, MatchOption, option_map, unwrap_or, arith, refl, ap, sym, subst, ◌∙◌}
use Rattle.std.specs.List.{starts_with}
use Rattle.std.proofs.lemmas.Bool.Decides.{nat_tests, Decides-eqb}
use Rattle.std.proofs.lemmas.Slice.Eq.{starts_is}
use Rattle.hack_versions.specs.declared.version.Version.{Version}
use Rattle.hack_versions.specs.declared.version.MaybeVersion.{MaybeVersion}
use Rattle.hack_versions.specs.declared.version.MaybeVersion.TheVariants.{Version as Given, Msrv, Stable}
use Rattle.hack_versions.specs.declared.version.VersionRange.{VersionRange}
use Rattle.hack_versions.specs.declared.version.VersionFault.{VersionFault}
use Rattle.hack_versions.specs.declared.version.VersionFault.TheVariants as fault
use Rattle.hack_base.specs.Numbers.{IsNumber}
use Rattle.hack_versions.specs.VersionTexts.{IsBadNumber, HasVersionNumbers, LacksVersionNumber, IsVersionFault, IsCut, IsUncut, IsBare, IsBoundText, IsBoundFault, IsEndText, IsOpen, IsEndTextFault, IsRangeText, IsRangeTextFault}
use Rattle.hack_base.specs.Cuts.{front_of, rest_of}
use Rattle.hack_versions.specs.Readings.{BadRange, BadNumber, OpenInclusive, IsRefusedBy, bad_range_of, Sides, then_read, read_as, version_part_of, with_minor, version_of, bound_of, behind_equals, end_of, is_old, at_dots, range_at, range_of}
use Rattle.std.specs.Option.{ok_or, option_map_or, option_transpose}
use Rattle.hack_base.proofs.NumberLemmas.{number-read, number-unread}

Refused-then : {A B : Type 0} (f : A → Result B BadRange) (r : Result A BadRange) (e : VersionFault) → IsRefusedBy r e → IsRefusedBy (then_read f r) e
Refused-then f r fault.Memory h = h
Refused-then f r fault.MissingMinor h = ap (then_read f) h
Refused-then f r (fault.BadNumber s) h = ap (then_read f) h
Refused-then f r (fault.OpenInclusive s) h = ap (then_read f) h

Refused-as : {A B : Type 0} (f : A → B) (r : Result A BadRange) (e : VersionFault) → IsRefusedBy r e → IsRefusedBy (read_as f r) e
Refused-as f r fault.Memory h = h
Refused-as f r fault.MissingMinor h = ap (read_as f) h
Refused-as f r (fault.BadNumber s) h = ap (read_as f) h
Refused-as f r (fault.OpenInclusive s) h = ap (read_as f) h

-- the first of two readings succeeded
Refused-next : {A B : Type 0} (f : A → Result B BadRange) (r : Result A BadRange) (a : A) (e : VersionFault) → r ≡ Ok a → IsRefusedBy (f a) e → IsRefusedBy (then_read f r) e
Refused-next {A} f r a e h k = subst (λ (x : Result A BadRange). IsRefusedBy (then_read f x) e) (sym h) k

-- parts

part-read : (text : List ℕ) (n : ℕ) → IsNumber 32 text n → version_part_of text ≡ Ok n
part-read text n h = ap (λ o. ok_or o (BadNumber text)) (number-read 32 n text h)

part-bad : (text : List ℕ) (e : VersionFault) → IsBadNumber text e → IsRefusedBy (version_part_of text) e
part-bad text (fault.BadNumber s) h = ap (λ o. ok_or o (BadNumber text)) (number-unread 32 text h.1) ∙ ap (λ t. Err (BadNumber t)) (sym h.0)
part-bad text fault.MissingMinor h = absurd h
part-bad text (fault.OpenInclusive s) h = absurd h
part-bad text fault.Memory h = absurd h

-- versions

-- a version with these parts, given the text after the second dot
abbrev patch_of : Option (List ℕ) → Result (Option ℕ) BadRange
patch_of o = option_transpose (option_map version_part_of o)

abbrev made : ℕ → ℕ → Option ℕ → Version
made major minor patch = record { major = major; minor = minor; patch = patch }

abbrev with_patch : ℕ → ℕ → Option (List ℕ) → Result Version BadRange
with_patch major minor o = read_as (made major minor) (patch_of o)

abbrev one_more : Result ℕ BadRange → Result (Option ℕ) BadRange
one_more r = option_transpose (Some r)

patch-read : (o : Option (List ℕ)) (major minor : ℕ) (patch : Option ℕ) → MatchOption o (patch ≡ None) (λ last. IsSomeAnd patch (IsNumber 32 last)) → with_patch major minor o ≡ Ok (made major minor patch)
patch-read None major minor patch h = ap (λ (p : Option ℕ). Ok (made major minor p)) (sym h)
patch-read (Some last) major minor None h = absurd h
patch-read (Some last) major minor (Some n) h = ap (λ r. read_as (made major minor) (one_more r)) (part-read last n h)

minor-read : (o : Option (List ℕ)) (v : Version) → IsSomeAnd o (λ rest. IsNumber 32 (front_of 46 rest) v.minor × MatchOption (rest_of 46 rest) (v.patch ≡ None) (λ last. IsSomeAnd v.patch (IsNumber 32 last))) → with_minor v.major o ≡ Ok v
minor-read None v h = absurd h
minor-read (Some text) v h = ap (then_read (λ minor. with_patch v.major minor (rest_of 46 text))) (part-read (front_of 46 text) v.minor h.0) ∙ patch-read (rest_of 46 text) v.major v.minor v.patch h.1

pub version-read : (text : List ℕ) (v : Version) → HasVersionNumbers text v → version_of text ≡ Ok v
version-read text v h = ap (then_read (λ major. with_minor major (rest_of 46 text))) (part-read (front_of 46 text) v.major h.0) ∙ minor-read (rest_of 46 text) v h.1

one-bad : (r : Result ℕ BadRange) (e : VersionFault) → IsRefusedBy r e → IsRefusedBy (one_more r) e
one-bad r fault.Memory h = h
one-bad r fault.MissingMinor h = ap one_more h
one-bad r (fault.BadNumber s) h = ap one_more h
one-bad r (fault.OpenInclusive s) h = ap one_more h

patch-bad : (o : Option (List ℕ)) (major minor : ℕ) (e : VersionFault) → IsSomeAnd o (λ last. IsBadNumber last e) → IsRefusedBy (with_patch major minor o) e
patch-bad None major minor e h = absurd h
patch-bad (Some last) major minor e h = Refused-as (made major minor) (patch_of (Some last)) e (one-bad (version_part_of last) e (part-bad last e h))

minor-bad : (o : Option (List ℕ)) (major : ℕ) (e : VersionFault) → MatchOption o (e ≡ fault.MissingMinor) (λ rest. IsBadNumber (front_of 46 rest) e ⊎ (((n : ℕ) × IsNumber 32 (front_of 46 rest) n) × IsSomeAnd (rest_of 46 rest) (λ last. IsBadNumber last e))) → IsRefusedBy (with_minor major o) e
minor-bad None major e h = subst (λ (e : VersionFault). IsRefusedBy (with_minor major None) e) (sym h) refl
minor-bad (Some text) major e (inl h) = Refused-then (λ minor. with_patch major minor (rest_of 46 text)) (version_part_of (front_of 46 text)) e (part-bad (front_of 46 text) e h)
minor-bad (Some text) major e (inr h) = Refused-next (λ minor. with_patch major minor (rest_of 46 text)) (version_part_of (front_of 46 text)) h.0.0 e (part-read (front_of 46 text) h.0.0 h.0.1) (patch-bad (rest_of 46 text) major h.0.0 e h.1)

version-bad : (text : List ℕ) (e : VersionFault) → LacksVersionNumber text e → IsRefusedBy (version_of text) e
version-bad text e (inl h) = Refused-then (λ major. with_minor major (rest_of 46 text)) (version_part_of (front_of 46 text)) e (part-bad (front_of 46 text) e h)
version-bad text e (inr h) = Refused-next (λ major. with_minor major (rest_of 46 text)) (version_part_of (front_of 46 text)) h.0.0 e (part-read (front_of 46 text) h.0.0 h.0.1) (minor-bad (rest_of 46 text) h.0.0 e h.1)

-- an error that isn't want of memory refuses the text, and the other way round
refused-some : (text : List ℕ) (bad : Option BadRange) (Q : Type 0) → IsSomeAnd bad (λ b. version_of text ≡ Err b) → MatchOption bad Q (λ b. version_of text ≡ Err b)
refused-some text (Some b) Q h = h
refused-some text None Q h = absurd h

some-refused : (text : List ℕ) (bad : Option BadRange) (Q : Type 0) → MatchOption bad Q (λ b. version_of text ≡ Err b) → Q ⊎ IsSomeAnd bad (λ b. version_of text ≡ Err b)
some-refused text (Some b) Q h = inr h
some-refused text None Q h = inl h

fault-refused : (text : List ℕ) (e : VersionFault) → IsVersionFault text e → IsRefusedBy (version_of text) e
fault-refused text e h = refused-some text (bad_range_of e) (e ≡ fault.Memory) h

-- bounds

not-empty : (b : ℕ) (bs : List ℕ) → b ∷ bs ≡ [] → ⊥
not-empty b bs e = cc

bound-read : (empty : MaybeVersion) (text : List ℕ) (bound : MaybeVersion) → IsBoundText empty text bound → bound_of empty text ≡ Ok bound
bound-read empty [] bound (inl h) = ap Ok (sym h.1)
bound-read empty [] bound (inr h) = absurd (h.0 refl)
bound-read empty (b ∷ bs) bound (inl h) = absurd (not-empty b bs h.0)
bound-read empty (b ∷ bs) bound (inr h) = ap (read_as Given) h.2 ∙ ap Ok (sym h.3)

bound-bad : (empty : MaybeVersion) (text : List ℕ) (e : VersionFault) → IsBoundFault text e → IsRefusedBy (bound_of empty text) e
bound-bad empty [] e h = absurd (h.0 refl)
bound-bad empty (b ∷ bs) e h = Refused-as Given (version_of (b ∷ bs)) e (fault-refused (b ∷ bs) e h.1)

-- ends

equals-read : (front back : List ℕ) (end : MaybeVersion) → back ≢ [] → IsBoundText Stable back end → behind_equals front back ≡ Ok end
equals-read front [] end n h = absurd (n refl)
equals-read front (c ∷ cs) end n h = bound-read Stable (c ∷ cs) end h

not-equals : (b : ℕ) (bs : List ℕ) → IsBare (b ∷ bs) → (b == 61) ≡ false
not-equals b bs h =
    let n : b ≢ 61 = λ e. h bs (ap (λ x. x ∷ bs) e) in
    grind (arith, nat_tests)

is-false : (b : Bool) → (IsTrue b → ⊥) → b ≡ false
is-false true h = absurd (h refl)
is-false false h = refl

end-read : (front back : List ℕ) (end : MaybeVersion) (old : Bool) → IsEndText back end old → end_of front back ≡ Ok end
end-read front back end old (inl h) = ap (end_of front) h.1 ∙ equals-read front h.0 end h.2 h.3
end-read front [] end old (inr h) = bound-read Stable [] end h.1
end-read front (b ∷ bs) end old (inr h) = rw (not-equals b bs h.0) (bound-read Stable (b ∷ bs) end h.1)

old-read : (back : List ℕ) (end : MaybeVersion) (old : Bool) → IsEndText back end old → old ≡ is_old back
old-read back end old (inl h) = h.4 ∙ ap is_old (sym h.1)
old-read [] end old (inr h) = is-false old (λ t. h.2.0 t refl)
old-read (b ∷ bs) end old (inr h) = rw (not-equals b bs h.0) (h.2.1 (not-empty b bs))

open-bad : (front : List ℕ) (e : VersionFault) → IsOpen front e → IsRefusedBy (behind_equals front []) e
open-bad front (fault.OpenInclusive s) h = ap (λ t. Err (OpenInclusive t)) (sym h)
open-bad front fault.MissingMinor h = absurd h
open-bad front (fault.BadNumber s) h = absurd h
open-bad front fault.Memory h = absurd h

equals-bad : (front back : List ℕ) (e : VersionFault) → IsBoundFault back e → IsRefusedBy (behind_equals front back) e
equals-bad front [] e h = absurd (h.0 refl)
equals-bad front (c ∷ cs) e h = bound-bad Stable (c ∷ cs) e h

end-bad : (front back : List ℕ) (e : VersionFault) → IsEndTextFault front back e → IsRefusedBy (end_of front back) e
end-bad front back e (inl h) = subst (λ (t : List ℕ). IsRefusedBy (end_of front t) e) (sym h.0) (open-bad front e h.1)
end-bad front back e (inr (inl h)) = subst (λ (t : List ℕ). IsRefusedBy (end_of front t) e) (sym h.1) (equals-bad front h.0 e h.2)
end-bad front [] e (inr (inr h)) = absurd (h.1.0 refl)
end-bad front (b ∷ bs) e (inr (inr h)) = rw (not-equals b bs h.0) (bound-bad Stable (b ∷ bs) e h.1)

-- splits

abbrev has_dots : List ℕ → Bool
has_dots text = starts_with nat_eq text (codes "..")

dots-first : (text : List ℕ) → has_dots text ≡ true → text ≡ codes ".." ++ drop 2 text
dots-first text h = (starts_is Decides-eqb text (codes "..") (has_dots text) refl).0 h

first-dots : (text rest : List ℕ) → text ≡ codes ".." ++ rest → has_dots text ≡ true
first-dots text rest h = (starts_is Decides-eqb text (codes "..") (has_dots text) refl).1 rest h

none-first : (text : List ℕ) → ((rest : List ℕ) → text ≡ codes ".." ++ rest → ⊥) → has_dots text ≡ false
none-first text h = is-false (has_dots text) (λ t. h (drop 2 text) (dots-first text t))

pub uncut-read : (text : List ℕ) → IsUncut text → at_dots text ≡ None
uncut-read [] h = refl
uncut-read (b ∷ bs) h = rw (none-first (b ∷ bs) (h [])) (ap (option_map (λ (s : Sides). record { front = b ∷ s.front; back = s.back })) (uncut-read bs (λ xs ys e. h (b ∷ xs) ys (ap (λ (t : List ℕ). b ∷ t) e))))

tail-same : (b c : ℕ) (bs cs : List ℕ) → b ∷ bs ≡ c ∷ cs → (b ≡ c) × (bs ≡ cs)
tail-same b c bs cs e = (cc, cc)

pub cut-read : (text front back : List ℕ) → IsCut text front back → at_dots text ≡ Some (record { front = front; back = back })
cut-read [] [] back h = absurd (let j = h.joined in cc)
cut-read [] (f ∷ fs) back h = absurd (let j = h.joined in cc)
cut-read (b ∷ bs) [] back h =
    let same : drop 2 (b ∷ bs) ≡ back = ap (λ t. drop 2 t) h.joined in
    rw (first-dots (b ∷ bs) back h.joined) (ap (λ (t : List ℕ). Some (record { front = []; back = t })) same)
cut-read (b ∷ bs) (f ∷ fs) back h =
    let parts = tail-same b f bs (fs ++ (codes ".." ++ back)) h.joined in
    let later : has_dots (b ∷ bs) ≡ false = none-first (b ∷ bs) (λ rest e. omega (arith, h.first [] rest e)) in
    let cut : IsCut bs fs back = record { joined = parts.1; first = λ xs ys e. omega (arith, h.first (b ∷ xs) ys (ap (λ (t : List ℕ). b ∷ t) e)) } in
    rw later (ap (option_map (λ (s : Sides). record { front = b ∷ s.front; back = s.back })) (cut-read bs fs back cut) ∙ ap (λ (c : ℕ). Some (record { front = c ∷ fs; back = back })) parts.0)

-- ranges

-- the whole text is the start, unless it is cut
abbrev sides_or : List ℕ → Option Sides → Sides
sides_or text o = unwrap_or o (record { front = text; back = [] })

abbrev from_ends : MaybeVersion → MaybeVersion → VersionRange
from_ends end start = record { start_inclusive = start; end_inclusive = end }

abbrev with_start : Sides → MaybeVersion → Result VersionRange BadRange
with_start sides end = read_as (from_ends end) (bound_of Msrv sides.front)

abbrev sides : List ℕ → List ℕ → Sides
sides front back = record { front = front; back = back }

at-read : (front back : List ℕ) (range : VersionRange) → end_of front back ≡ Ok range.end_inclusive → IsBoundText Msrv front range.start_inclusive → range_at (sides front back) ≡ Ok range
at-read front back range e h =
    ap (then_read (with_start (sides front back))) e
    ∙ ap (read_as (from_ends range.end_inclusive)) (bound-read Msrv front range.start_inclusive h)

pub range-read : (text : List ℕ) (range : VersionRange) (old : Bool) → IsRangeText text range old → range_of text ≡ Ok range
range-read text range old (inl h) =
    ap (λ o. range_at (sides_or text o)) (uncut-read text h.0)
    ∙ at-read text [] range (ap Ok (sym h.2)) h.1
range-read text range old (inr h) =
    ap (λ o. range_at (sides_or text o)) (cut-read text h.0 h.1 h.2)
    ∙ at-read h.0 h.1 range (end-read h.0 h.1 range.end_inclusive old h.3) h.4

-- whether it has the old form
abbrev old_or_not : Option Sides → Bool
old_or_not o = option_map_or (λ s. is_old s.back) o false

pub range-old : (text : List ℕ) (range : VersionRange) (old : Bool) → IsRangeText text range old → old ≡ old_or_not (at_dots text)
range-old text range old (inl h) = h.3 ∙ sym (ap old_or_not (uncut-read text h.0))
range-old text range old (inr h) = old-read h.1 range.end_inclusive old h.3 ∙ sym (ap old_or_not (cut-read text h.0 h.1 h.2))

start-bad : (front back : List ℕ) (end : MaybeVersion) (e : VersionFault) → end_of front back ≡ Ok end → IsBoundFault front e → IsRefusedBy (range_at (sides front back)) e
start-bad front back end e o h =
    Refused-next (with_start (sides front back)) (end_of front back) end e o
    (Refused-as (from_ends end) (bound_of Msrv front) e (bound-bad Msrv front e h))

range-bad : (text : List ℕ) (e : VersionFault) → IsRangeTextFault text e → IsRefusedBy (range_of text) e
range-bad text e (inl h) = subst (λ (o : Option Sides). IsRefusedBy (range_at (sides_or text o)) e) (sym (uncut-read text h.0)) (start-bad text [] Stable e refl h.1)
range-bad text e (inr h) = subst (λ (o : Option Sides). IsRefusedBy (range_at (sides_or text o)) e) (sym (cut-read text h.0 h.1 h.2)) (either h.3)
  where
    either : IsEndTextFault h.0 h.1 e ⊎ (((end : MaybeVersion) × (old : Bool) × IsEndText h.1 end old) × IsBoundFault h.0 e) → IsRefusedBy (range_at (sides h.0 h.1)) e
    either (inl k) = Refused-then (with_start (sides h.0 h.1)) (end_of h.0 h.1) e (end-bad h.0 h.1 e k)
    either (inr k) = start-bad h.0 h.1 k.0.0 e (end-read h.0 h.1 k.0.0 k.0.1 k.0.2) k.1

pub version-unread : (text : List ℕ) (e : VersionFault) → (e ≡ fault.Memory) ⊎ LacksVersionNumber text e → IsRefusedBy (version_of text) e
version-unread text e (inl h) = subst (λ (e : VersionFault). IsRefusedBy (version_of text) e) (sym h) refl
version-unread text e (inr h) = version-bad text e h

pub range-unread : (text : List ℕ) (e : VersionFault) → (e ≡ fault.Memory) ⊎ IsRangeTextFault text e → IsRefusedBy (range_of text) e
range-unread text e (inl h) = subst (λ (e : VersionFault). IsRefusedBy (range_of text) e) (sym h) refl
range-unread text e (inr h) = range-bad text e h

pub version-fault : (text : List ℕ) (e : VersionFault) → (e ≡ fault.Memory) ⊎ LacksVersionNumber text e → (e ≡ fault.Memory) ⊎ IsVersionFault text e
version-fault text e h = some-refused text (bad_range_of e) (e ≡ fault.Memory) (version-unread text e h)
