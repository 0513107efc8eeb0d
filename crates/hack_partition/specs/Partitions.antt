-- The texts of pieces and of their kinds.
use Rattle.std.specs.Prelude.{◌≡◌, ℕ, ◌<◌, ◌≤◌, ◌&&◌, not, nat_lt, List, ◌++◌, codes, bytes_eq, Option, Some, None, option_and_then, string_bytes, if◌then◌else◌}
use Rattle.hack_base.specs.Numbers.{IsNumber, number_of}
use Rattle.hack_base.specs.Cuts.{front_of, rest_of}
use Rattle.hack_partition.specs.declared.partition.PartitionKind.{PartitionKind}
use Rattle.hack_partition.specs.declared.partition.PartitionKind.TheVariants.{Block, Turn}
use Rattle.hack_partition.specs.declared.partition.PartitionFault.{PartitionFault}
use Rattle.hack_partition.specs.declared.partition.PartitionFault.TheVariants.{Piece, Kind, Memory}

-- the text is m/n, for piece m of n
abbrev pub IsPiece : List ℕ → ℕ → ℕ → Type 0
IsPiece text m n =
    (before : List ℕ) × (behind : List ℕ) × (text ≡ before ++ codes "/" ++ behind)
    × IsNumber 64 before m × IsNumber 64 behind n × (0 < m) × (m ≤ n)

-- the text isn't m/n for any piece
abbrev pub IsNoPiece : List ℕ → Type 0
IsNoPiece text = (m n : ℕ) → IsPiece text m n → ⊥

-- both numbers, where the first is at least 1 and at most the second
abbrev pub piece_if : Option ℕ → Option ℕ → Option (ℕ × ℕ)
piece_if (Some m) (Some n) = if nat_lt 0 m && not (nat_lt n m) then Some (m, n) else None
piece_if m n = None

-- which piece a text names, and of how many, if it names one: m/n, split at the first slash
abbrev pub piece_of : List ℕ → Option (ℕ × ℕ)
piece_of text =
    option_and_then (λ rest. piece_if (number_of 64 (front_of 47 text)) (number_of 64 rest))
    (rest_of 47 text)

-- why a text is refused as a piece
abbrev pub RefusesPiece : List ℕ → PartitionFault → Type 0
RefusesPiece text (Piece s) = (string_bytes s ≡ text) × IsNoPiece text
RefusesPiece text (Kind s) = ⊥
RefusesPiece text Memory = Unit {0}

-- the name of a kind
abbrev pub kind_name : PartitionKind → List ℕ
kind_name Block = codes "block"
kind_name Turn = codes "turn"

-- the text isn't the name of a kind
abbrev pub IsNoKind : List ℕ → Type 0
IsNoKind text = (kind : PartitionKind) → text ≡ kind_name kind → ⊥

-- the kind of pieces that a text names, if it names one
abbrev pub kind_of : List ℕ → Option PartitionKind
kind_of text =
    if bytes_eq text (codes "block") then Some Block
    else if bytes_eq text (codes "turn") then Some Turn
    else None

-- why a text is refused as a kind
abbrev pub RefusesKind : List ℕ → PartitionFault → Type 0
RefusesKind text (Kind s) = (string_bytes s ≡ text) × IsNoKind text
RefusesKind text (Piece s) = ⊥
RefusesKind text Memory = Unit {0}
