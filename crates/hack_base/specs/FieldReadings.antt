-- What a field holds, or its name.
use Rattle.std.specs.Prelude.{Result, Ok, Err}
use Rattle.hack_base.specs.Names.{Name}

-- what was read, or the name of the first field that is missing or has the wrong type
abbrev pub FieldReading : Type 0 → Type 0
FieldReading A = Result A Name

-- one reading after another: where the first one fails, that is the result
infixl 10 ◌>>=◌
abbrev pub ◌>>=◌ : {A B : Type 0} → FieldReading A → (A → FieldReading B) → FieldReading B
(Ok x) >>= f = f x
(Err name) >>= f = Err name
