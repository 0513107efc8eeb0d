-- What cargo prints when it is asked for its version.
use Rattle.std.specs.Prelude.{ℕ, List, Option, length, drop, codes, nat_eq, option_map}
use Rattle.std.specs.List.{find, starts_with}
use Rattle.std.specs.Str.Lines.{lines}
use Rattle.hack_base.specs.Cuts.{front_of}

-- what follows a name in the first of these lines that begins with it
abbrev pub first_behind : List ℕ → List (List ℕ) → Option (List ℕ)
first_behind name ls = option_map (drop (length name)) (find (λ l. starts_with nat_eq l name) ls)

-- the host that an answer names
abbrev pub host_of : List ℕ → Option (List ℕ)
host_of answer = first_behind (codes "host: ") (lines answer)

-- the part of an answer that has cargo's version: the release, up to the `-` before a channel
abbrev pub release_part : List ℕ → Option (List ℕ)
release_part answer = option_map (front_of 45) (first_behind (codes "release: ") (lines answer))
