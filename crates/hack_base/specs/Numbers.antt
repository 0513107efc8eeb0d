-- Texts that are numbers.
use Rattle.std.specs.Prelude.{◌≡◌, ℕ, ◌<◌, ◌^◌, ◌&&◌, List, Bool, Option, Some, None, length, nat_lt, if◌then◌else◌}
use Rattle.std.specs.List.{list_all}
use Rattle.std.specs.Str.Parse.{IsNumeral, digits_value, without_leading_plus}

-- a text is the number n in this many bits: an optional `+` and digits, and n is below 2 ^ bits
abbrev pub IsNumber : ℕ → List ℕ → ℕ → Type 0
IsNumber bits text n =
    IsNumeral 10 (without_leading_plus text)
    × (digits_value 10 (without_leading_plus text) ≡ n)
    × (n < 2 ^ bits)

-- an ASCII digit
abbrev pub is_digit : ℕ → Bool
is_digit b = nat_lt 47 b && nat_lt b 58

-- one digit or more
abbrev pub is_digits : List ℕ → Bool
is_digits text = nat_lt 0 (length text) && list_all is_digit text

-- the number in this many bits that a text is, if it is one
abbrev pub number_of : ℕ → List ℕ → Option ℕ
number_of bits text =
    if is_digits (without_leading_plus text)
    && nat_lt (digits_value 10 (without_leading_plus text)) (2 ^ bits)
    then Some (digits_value 10 (without_leading_plus text)) else None
