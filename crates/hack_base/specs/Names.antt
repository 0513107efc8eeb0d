-- Names as contracts see them.
use Rattle.std.specs.Prelude.{ℕ, List, map, Option, option_map, String, string_bytes}
use Rattle.std.specs.Borrow.{Bor}

-- a name is its bytes
abbrev pub Name : Type 0
Name = List ℕ

-- the names in a list of texts
abbrev pub names_of : {Y : Type 0} → List (String Y) → List Name
names_of texts = map string_bytes texts

-- the names in a list of references to texts
abbrev pub names_behind : List (Bor Name) → List Name
names_behind texts = map (λ text. text.now) texts

-- the bytes of a text, if there is one
abbrev pub optional_text : {Y : Type 0} → Option (String Y) → Option Name
optional_text text = option_map string_bytes text

-- the same for a text behind a reference
abbrev pub optional_text_ref : {Y : Type 0} → Option (Bor (String Y)) → Option Name
optional_text_ref text = option_map (λ text. string_bytes text.now) text
