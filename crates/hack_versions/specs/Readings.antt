-- How texts are read as versions and as ranges of versions.
use Rattle.std.specs.Prelude.{◌≡◌, ℕ, ◌==◌, List, [], ◌∷◌, Bool, false, not, if◌then◌else◌, Option, Some, None, Result, Ok, Err, MatchOption, option_map, unwrap_or, ok_or, codes, drop, nat_eq, string_bytes}
use Rattle.std.specs.Option.{option_transpose}
use Rattle.std.specs.Result.{result_map_both, result_flatten}
use Rattle.std.specs.List.{starts_with}
use Rattle.hack_base.specs.Numbers.{number_of}
use Rattle.hack_base.specs.Cuts.{front_of, rest_of}
use Rattle.hack_versions.specs.declared.version.Version.{Version}
use Rattle.hack_versions.specs.declared.version.MaybeVersion.{MaybeVersion}
use Rattle.hack_versions.specs.declared.version.MaybeVersion.TheVariants.{Version as Given, Msrv, Stable}
use Rattle.hack_versions.specs.declared.version.VersionRange.{VersionRange}
use Rattle.hack_versions.specs.declared.version.VersionFault.{VersionFault}
use Rattle.hack_versions.specs.declared.version.VersionFault.TheVariants as fault

-- why a text is no version, or no range of versions
pub data BadRange : Type 0 where
  MissingMinor : BadRange
  BadNumber : List ℕ → BadRange
  OpenInclusive : List ℕ → BadRange

-- what an error says about a text; nothing where memory ran out
abbrev pub bad_range_of : VersionFault → Option BadRange
bad_range_of fault.Memory = None
bad_range_of fault.MissingMinor = Some MissingMinor
bad_range_of (fault.BadNumber text) = Some (BadNumber (string_bytes text))
bad_range_of (fault.OpenInclusive text) = Some (OpenInclusive (string_bytes text))

-- a text is refused for the reason in the error, unless memory ran out
abbrev pub IsRefusedBy : {A : Type 0} → Result A BadRange → VersionFault → Type 0
IsRefusedBy reading e = MatchOption (bad_range_of e) (e ≡ fault.Memory) (λ bad. reading ≡ Err bad)

-- what was read, converted to another value
abbrev pub read_as : {A B : Type 0} → (A → B) → Result A BadRange → Result B BadRange
read_as f r = result_map_both f (λ bad. bad) r

-- the next reading, applied to what was read so far unless that was refused
abbrev pub then_read : {A B : Type 0} → (A → Result B BadRange) → Result A BadRange → Result B BadRange
then_read f r = result_flatten (read_as f r)

-- a part of a version, a number below 2^32
abbrev pub version_part_of : List ℕ → Result ℕ BadRange
version_part_of text = ok_or (number_of 32 text) (BadNumber text)

-- a version with this major part, given the text after the first dot
abbrev pub with_minor : ℕ → Option (List ℕ) → Result Version BadRange
with_minor major None = Err MissingMinor
with_minor major (Some text) =
    then_read (λ minor. read_as (λ patch. record { major = major; minor = minor; patch = patch })
    (option_transpose (option_map version_part_of (rest_of 46 text)))) (version_part_of (front_of 46 text))

-- a version, split at its first two dots
abbrev pub version_of : List ℕ → Result Version BadRange
version_of text =
    then_read (λ major. with_minor major (rest_of 46 text)) (version_part_of (front_of 46 text))

-- a bound of a range: a version, or the bound that an empty text means
abbrev pub bound_of : MaybeVersion → List ℕ → Result MaybeVersion BadRange
bound_of empty [] = Ok empty
bound_of empty text = read_as Given (version_of text)

-- the text after `..=`: a version
abbrev pub behind_equals : List ℕ → List ℕ → Result MaybeVersion BadRange
behind_equals front [] = Err (OpenInclusive front)
behind_equals front text = bound_of Stable text

-- the text after `..`: nothing, `=` and a version, or a version alone
abbrev pub end_of : List ℕ → List ℕ → Result MaybeVersion BadRange
end_of front [] = Ok Stable
end_of front (b ∷ bs) = if b == 61 then behind_equals front bs else bound_of Stable (b ∷ bs)

-- whether a version alone is the text after `..`, which is the old form
abbrev pub is_old : List ℕ → Bool
is_old [] = false
is_old (b ∷ bs) = not (b == 61)

-- both sides of a split
pub record Sides : Type 0 where
  pub front : List ℕ
  pub back : List ℕ

-- a text split at its first `..`, if it has one
abbrev pub at_dots : List ℕ → Option Sides
at_dots [] = None
at_dots (b ∷ bs) =
    if starts_with nat_eq (b ∷ bs) (codes "..")
    then Some (record { front = []; back = drop 2 (b ∷ bs) })
    else option_map (λ sides. record { front = b ∷ sides.front; back = sides.back }) (at_dots bs)

-- a range with these sides: its end is read before its start
abbrev pub range_at : Sides → Result VersionRange BadRange
range_at sides =
    then_read (λ end. read_as (λ start. record { start_inclusive = start; end_inclusive = end })
    (bound_of Msrv sides.front)) (end_of sides.front sides.back)

-- a range, split at its first `..`; a text without one is its start
abbrev pub range_of : List ℕ → Result VersionRange BadRange
range_of text = range_at (unwrap_or (at_dots text) (record { front = text; back = [] }))
