-- What is written to a sink, and how often that failed.
use Rattle.std.specs.Prelude.{◌≡◌, ◌<◌, ◌≤◌, ◌&&◌, ◌+◌, ◌-◌, ◌^◌, ℕ, Bool, true, List, ◌++◌, codes, length, nat_eq, nat_lt, Option, Some, None, Result, Ok, Err, min, option_map, if◌then◌else◌, ⊤}
use Rattle.std.specs.Io.KnownBytes.{Appends}

-- known bytes grow by a prefix of the text, which may be all of it
abbrev pub AppendsFront : Option (List ℕ) → Option (List ℕ) → List ℕ → Type 0
AppendsFront old new text = (front : List ℕ) × (rest : List ℕ) × (text ≡ front ++ rest) × Appends old new front

-- a line: what begins it, its text, and a line feed
abbrev pub line : List ℕ → List ℕ → List ℕ
line label text = label ++ text ++ codes "\n"

-- no failure that was counted is forgotten
abbrev pub NoFewer : Option ℕ → Option ℕ → Type 0
NoFewer None new = ⊤
NoFewer (Some n) None = ⊥
NoFewer (Some n) (Some m) = n ≤ m

-- some failure was counted: if failures are, and the count was below 2^64 - 1, it rose
abbrev pub HasFailed : Option ℕ → Option ℕ → Type 0
HasFailed None new = ⊤
HasFailed (Some n) None = ⊥
HasFailed (Some n) (Some m) = (n ≤ m) × (n < 2 ^ 64 - 1 → n < m)

-- an error comes only with a failure that was counted
abbrev pub CountsErrors : {T E : Type 0} → Option ℕ → Option ℕ → Result T E → Type 0
CountsErrors old new (Ok done) = NoFewer old new
CountsErrors old new (Err fault) = HasFailed old new

-- one failure more, if they are counted; a count of 2^64 - 1 stays
abbrev pub one_more : Option ℕ → Option ℕ
one_more = option_map (λ n. n + min 1 (2 ^ 64 - 1 - n))

-- a call that fails is counted, and a call that doesn't fail isn't
abbrev pub CountsFailure : {T E : Type 0} → Option ℕ → Option ℕ → Result T E → Type 0
CountsFailure old new (Ok done) = new ≡ old
CountsFailure old new (Err fault) = new ≡ one_more old

-- nothing was taken
abbrev pub takes_none : {E : Type 0} → Result ℕ E → Bool
takes_none (Ok n) = nat_eq n 0
takes_none (Err fault) = true

-- a write fails where none of some bytes are taken: a write of no bytes never does
abbrev pub write_failed : {E : Type 0} → List ℕ → Result ℕ E → Bool
write_failed bytes result = nat_lt 0 (length bytes) && takes_none result

-- a write that fails is counted, and one that doesn't isn't: a write of no bytes counts nothing
abbrev pub CountsWrite : {E : Type 0} → List ℕ → Option ℕ → Option ℕ → Result ℕ E → Type 0
CountsWrite bytes old new result = new ≡ (if write_failed bytes result then one_more old else old)
