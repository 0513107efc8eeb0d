-- What the steps of matching a specification return.
use Rattle.std.specs.Prelude.{◌≡◌, ◌≢◌, ℕ, ◌≤◌, ◌++◌, length, codes, nat_lt, ◌==◌, ◌&&◌, Bool, true, false, if◌then◌else◌, [], ◌∷◌, Option, Some, None, Result, Ok, Err, is_some, slice_index, bytes_eq}
use Rattle.std.specs.List.{before_first, after_first}
use Rattle.hack_base.specs.Names.{Name}
use Rattle.hack_pkgids.specs.PackageSpecs.{has_byte, separates, third, version_parts_of, Url, IsUrl, Identity}
use Rattle.std.specs.Char.{is_ascii_digit}
use Rattle.std.specs.Cmp.Lexicographic.{pointwise}
use Rattle.hack_pkgids.specs.declared.pkgids.SpecFault.{SpecFault}
use Rattle.hack_pkgids.specs.declared.pkgids.SpecFault.TheVariants.{BadId, BadVersion}

-- the result of matching
abbrev pub MatchAnswer : Type 0
MatchAnswer = Result Bool SpecFault

-- a part is not given, or equals the other one
abbrev pub agrees_if_given : Option Name → Option Name → Bool
agrees_if_given None full = true
agrees_if_given (Some part) None = false
agrees_if_given (Some part) (Some full) = bytes_eq part full

-- whether a version fits a full one
abbrev pub fits : Name → Name → MatchAnswer
fits given full =
    if is_some (third full)
    then Ok (pointwise agrees_if_given (version_parts_of given) (version_parts_of full))
    else Err BadVersion

-- what comes before and after the first byte that passes, where there is one
abbrev pub cut_by : (ℕ → Bool) → Name → Option (Name × Name)
cut_by p text = if has_byte p text then Some (before_first p text, after_first p text) else None

-- what comes before and after the first separator, where there is one
abbrev pub parts_at_separator : Name → Option (Name × Name)
parts_at_separator text = cut_by separates text

-- the one of two cuts that has the shorter front
abbrev pub earlier : Option (Name × Name) → Option (Name × Name) → Option (Name × Name)
earlier None second = second
earlier (Some first) None = Some first
earlier (Some first) (Some second) = if nat_lt (length second.0) (length first.0) then Some second else Some first

-- what follows the byte at the beginning
abbrev pub behind_byte : ℕ → Name → Option Name
behind_byte b [] = None
behind_byte b (x ∷ rest) = if x == b then Some rest else None

-- what follows a separator at the beginning
abbrev pub behind_separator : Name → Option Name
behind_separator [] = None
behind_separator (x ∷ rest) = if separates x then Some rest else None

-- whether what follows the name matches: nothing, or a separator and a version
abbrev pub behind_name : Name → Name → MatchAnswer
behind_name version [] = Ok true
behind_name version (x ∷ given) = if separates x then fits given version else Ok false

-- whether a fragment that is a name and a version matches the parts of the id's fragment
abbrev pub with_version : Name × Name → Option (Name × Name) → MatchAnswer
with_version given None = Ok false
with_version given (Some own) = if bytes_eq given.0 own.0 then fits given.1 own.1 else Ok false

-- whether a fragment that is a name or a version alone matches
abbrev pub alone_in : Identity → Name → MatchAnswer
alone_in p text =
    if bytes_eq text p.name then Ok true
    else (if is_ascii_digit (slice_index text 0) then fits text p.version else Ok false)

-- whether a fragment with these parts matches the id's fragment with those
abbrev pub in_fragment : Identity → Name → Option (Name × Name) → Option (Name × Name) → MatchAnswer
in_fragment p text None own = alone_in p text
in_fragment p text (Some given) own = with_version given own

-- whether the fragment of a specification matches that of the id
abbrev pub of_fragments : Identity → Option Name → Option Name → MatchAnswer
of_fragments p None own = Ok true
of_fragments p (Some text) None = Ok false
of_fragments p (Some text) (Some own) = in_fragment p text (parts_at_separator text) (parts_at_separator own)

-- two URLs are the same place
abbrev pub is_same_place : Url → Url → Bool
is_same_place given own = bytes_eq given.protocol own.protocol && (bytes_eq given.path own.path && agrees_if_given given.query own.query)

-- whether a specification matches an id, each read as a URL, or none where it is no URL
abbrev pub of_urls : Identity → Option Url → Option Url → MatchAnswer
of_urls p None own = Ok false
of_urls p (Some given) None = Err BadId
of_urls p (Some given) (Some own) = if is_same_place given own then of_fragments p given.fragment own.fragment else Ok false

-- the URL that a text is; none where it is no URL
abbrev pub IsUrlOrNone : Name → Option Url → Type 0
IsUrlOrNone text None = (url : Url) → ¬ IsUrl text url
IsUrlOrNone text (Some url) = IsUrl text url

-- the text has no `://`
abbrev pub IsNoUrl : Name → Type 0
IsNoUrl text = (x y : Name) → text ≢ x ++ (codes "://" ++ y)

-- what comes before and after the first `://` of a text
pub record IsSchemeCut (text scheme rest : Name) : Type 0 where
  pub whole : text ≡ scheme ++ (codes "://" ++ rest)
  pub first : (x y : Name) → text ≡ x ++ (codes "://" ++ y) → length scheme ≤ length x

-- the text begins with the name, and this follows; or it doesn't begin with it
abbrev pub IsBehind : Name → Name → Option Name → Type 0
IsBehind name text None = (rest : Name) → text ≢ name ++ rest
IsBehind name text (Some rest) = text ≡ name ++ rest
