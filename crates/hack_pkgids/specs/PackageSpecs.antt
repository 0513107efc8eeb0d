-- When a package ID specification matches a package, as the chapter "Package ID Specifications" of
-- the Cargo reference says. A specification is the package's name, the name with a version after
-- `@` or `:`, or a URL.
use Rattle.std.specs.Prelude.{◌≡◌, ◌≢◌, ℕ, ◌-◌, ◌≤◌, ◌==◌, ◌||◌, Bool, true, false, nat_lt, if◌then◌else◌, List, [], ◌∷◌, ◌++◌, length, take, slice_index, codes, Option, Some, None, IsSome, IfSome, option_map, option_and_then, unwrap_or}
use Rattle.std.specs.List.{AllZip, before_first, after_first, position_or_len, suffix_len}
use Rattle.std.specs.Char.{is_ascii_digit, is_ascii_whitespace}
use Rattle.hack_base.specs.Names.{Name}

-- ---- parts of a text

-- the text has a byte that passes
abbrev pub has_byte : (ℕ → Bool) → Name → Bool
has_byte p text = nat_lt (position_or_len p text) (length text)

-- what follows the first byte that passes, where there is one
abbrev pub behind_first_byte : (ℕ → Bool) → Name → Option Name
behind_first_byte p text = if has_byte p text then Some (after_first p text) else None

-- a part, where it isn't empty
abbrev pub filled_part : Name → Option Name
filled_part [] = None
filled_part (x ∷ xs) = Some (x ∷ xs)

-- `@` or `:`
abbrev pub separates : ℕ → Bool
separates x = x == 64 || x == 58

-- a byte is this one
abbrev pub is_byte : ℕ → ℕ → Bool
is_byte b x = x == b

-- the text without the ASCII white space at its end
abbrev pub trimmed_end : Name → Name
trimmed_end text = take (length text - suffix_len is_ascii_whitespace text) text

-- a part is not given, or equals the other one
abbrev pub AgreesIfGiven : Option Name → Option Name → Type 0
AgreesIfGiven given full = IfSome given (λ part. full ≡ Some part)

-- ---- versions, `major[.minor[.patch[-pre][+build]]]`, compared as texts

-- what follows the second dot
abbrev pub third : Name → Option Name
third text = option_and_then (behind_first_byte (is_byte 46)) (behind_first_byte (is_byte 46) text)

-- major, minor, patch, pre-release and build: what follows the second dot is cut at its first `+`,
-- and what stands before that at its first `-`
abbrev pub version_parts_of : Name → List (Option Name)
version_parts_of text =
    let core = option_map (before_first (is_byte 43)) (third text) in
    Some (before_first (is_byte 46) text)
    ∷ option_map (before_first (is_byte 46)) (behind_first_byte (is_byte 46) text)
    ∷ option_map (before_first (is_byte 45)) core
    ∷ option_and_then (λ c. filled_part (after_first (is_byte 45) c)) core
    ∷ option_and_then (λ last. filled_part (after_first (is_byte 43) last)) (third text) ∷ []

-- the version fits one of three parts or more: each part that is given equals that of the other
pub record Fits (given full : Name) : Type 0 where
  pub whole : IsSome (third full)
  pub agrees : AllZip AgreesIfGiven (version_parts_of given) (version_parts_of full)

-- ---- URLs, `[kind+]protocol://path[?query][#fragment]`

pub record Url : Type 0 where
  pub protocol : Name
  pub path : Name
  pub query : Option Name
  pub fragment : Option Name

-- the text is that URL: it is cut at its first `://`; the text before at the first `+`; the text
-- after at the first `#`, and then at the first `?`; an empty query or fragment is none
pub record IsUrl (text : Name) (url : Url) : Type 0 where
  pub scheme : Name
  pub rest : Name
  pub whole : text ≡ scheme ++ (codes "://" ++ rest)
  pub first : (x y : Name) → text ≡ x ++ (codes "://" ++ y) → length scheme ≤ length x
  pub protocol : url.protocol ≡ unwrap_or (behind_first_byte (is_byte 43) scheme) scheme
  pub path : url.path ≡ before_first (is_byte 63) (before_first (is_byte 35) rest)
  pub query : url.query ≡ filled_part (after_first (is_byte 63) (before_first (is_byte 35) rest))
  pub fragment : url.fragment ≡ filled_part (after_first (is_byte 35) rest)

-- ---- the match

-- what a specification is compared with
pub record Identity : Type 0 where
  pub name : Name
  pub version : Name
  pub id : Name

module _ (p : Identity) (spec : Name) where
  -- the specification is a URL, white space at its end aside, and the id is one, of the same place:
  -- protocol and path, and the query where it is given
  pub record IsPlace (given own : Url) : Type 0 where
    pub unnamed : (rest : Name) → spec ≢ p.name ++ rest
    pub spec_is : IsUrl (trimmed_end spec) given
    pub id_is : IsUrl p.id own
    pub protocol : given.protocol ≡ own.protocol
    pub path : given.path ≡ own.path
    pub query : AgreesIfGiven given.query own.query

  -- the specification matches just where `given` fits `full`: it is the name and a version, or a
  -- place whose fragment is a name and a version, as that of the id, or a version alone
  pub data AsksVersion (given full : Name) : Type 0 where
    of_name : (by : ℕ) → separates by ≡ true → spec ≡ p.name ++ by ∷ given → p.version ≡ full → AsksVersion given full
    of_fragment : (url own : Url) (text id_text : Name) → IsPlace url own → url.fragment ≡ Some text → own.fragment ≡ Some id_text
        → before_first separates text ≡ before_first separates id_text
        → behind_first_byte separates text ≡ Some given → behind_first_byte separates id_text ≡ Some full → AsksVersion given full
    alone : (url own : Url) → IsPlace url own → url.fragment ≡ Some given → IsSome own.fragment → has_byte separates given ≡ false
        → given ≢ p.name → is_ascii_digit (slice_index given 0) ≡ true → p.version ≡ full
        → AsksVersion given full

  -- the specification matches the package
  pub data Matches : Type 0 where
    named : spec ≡ p.name → Matches
    placed : (url own : Url) → IsPlace url own → url.fragment ≡ None → Matches
    name_at : (url own : Url) → IsPlace url own → url.fragment ≡ Some p.name → IsSome own.fragment → has_byte separates p.name ≡ false → Matches
    versioned : (given full : Name) → AsksVersion given full → Fits given full → Matches

  -- the specification is a URL, and the id is none
  pub record HasBadId : Type 0 where
    pub unnamed : (rest : Name) → spec ≢ p.name ++ rest
    pub url : Url
    pub spec_is : IsUrl (trimmed_end spec) url
    pub id_is : (own : Url) → ¬ IsUrl p.id own

  -- the version to be compared with has no three parts
  pub record HasBadVersion : Type 0 where
    pub given : Name
    pub full : Name
    pub asks : AsksVersion given full
    pub short : ¬ IsSome (third full)
