-- Paths as texts.
use Rattle.std.specs.Prelude.{ℕ, ◌-◌, Bool, ◌||◌, ◌==◌, List, [], ◌∷◌, ◌++◌, length, drop, codes, nat_eq, bytes_eq, take, fold, slice_get, unwrap_or, Option, Some, None, if◌then◌else◌}
use Rattle.std.specs.List.{starts_with, ends_with, before_last, after_last, slice_split, join_by}

-- a byte is `/`
abbrev pub is_slash : ℕ → Bool
is_slash b = b == 47

-- a byte is `.`
abbrev pub is_dot : ℕ → Bool
is_dot b = b == 46

-- the first text, or the second where the first is empty
abbrev pub or_if_empty : List ℕ → List ℕ → List ℕ
or_if_empty [] other = other
or_if_empty (b ∷ bs) other = b ∷ bs

-- what comes after the last `/` of a path, or all of it
abbrev pub last_part : List ℕ → List ℕ
last_part p = after_last is_slash p

-- a part up to its last dot, or all of it where that dot is its first byte or there is none
abbrev pub without_ending : List ℕ → List ℕ
without_ending part = or_if_empty (before_last is_dot part) part

-- a part has no effect: it is empty or `.`
abbrev pub is_dropped : List ℕ → Bool
is_dropped part = length part == 0 || bytes_eq part (codes ".")

-- a part leads up: it is `..`
abbrev pub is_up : List ℕ → Bool
is_up part = bytes_eq part (codes "..")

-- a part names nothing: it is empty, `.` or `..`
abbrev pub is_nameless : List ℕ → Bool
is_nameless part = is_dropped part || is_up part

-- the last part of a path without its ending, or the path where that part is empty, `.` or `..`
abbrev pub stem_of : List ℕ → List ℕ
stem_of p = if is_nameless (last_part p) then p else without_ending (last_part p)

-- the rest of a path after a prefix, or the whole path where it doesn't begin so
abbrev pub without_front : List ℕ → List ℕ → List ℕ
without_front front p = if starts_with nat_eq p front then drop (length front) p else p

-- the rest of a path after a folder and one `/`, or the whole path where it doesn't begin so or the
-- folder is empty
abbrev pub under_of : List ℕ → List ℕ → List ℕ
under_of p [] = p
under_of p (b ∷ bs) = without_front ((b ∷ bs) ++ codes "/") p

-- a path begins with `/`
abbrev pub is_rooted : List ℕ → Bool
is_rooted p = starts_with nat_eq p (codes "/")

-- a folder followed by `/`, or unchanged where it is empty or ends with one
abbrev pub with_slash : List ℕ → List ℕ
with_slash dir = if length dir == 0 || ends_with nat_eq dir (codes "/") then dir else dir ++ codes "/"

-- a path that begins with `/`, or else a folder, a `/` and the path
abbrev pub join_of : List ℕ → List ℕ → List ℕ
join_of dir p = if is_rooted p then p else with_slash dir ++ p

-- what comes before the last `/` of a path; empty where there is none, and `/` where the only one
-- is its first byte
abbrev pub parent_of : List ℕ → List ℕ
parent_of p = or_if_empty (before_last is_slash p) (if is_rooted p then codes "/" else [])

-- the parts before the last one, if that can be removed
abbrev pub without_last : Bool → Option (List ℕ) → List (List ℕ) → Option (List (List ℕ))
without_last rooted None before = if rooted then Some [] else None
without_last rooted (Some last) before = if is_up last then None else Some before

-- `..` removes the last of these parts. Where there is none it is dropped at the root; elsewhere,
-- and where the last part is a `..` that stays, the result is none
abbrev pub one_up : Bool → List (List ℕ) → Option (List (List ℕ))
one_up rooted kept = without_last rooted (slice_get kept (length kept - 1)) (take (length kept - 1) kept)

-- the parts that are kept, followed by one more, unless that one is dropped or leads up
abbrev pub with_part : Bool → List (List ℕ) → List ℕ → List (List ℕ)
with_part rooted kept part = if is_dropped part then kept else (if is_up part then unwrap_or (one_up rooted kept) (kept ++ part ∷ []) else kept ++ part ∷ [])

-- the parts of a path that are kept
abbrev pub kept_of : Bool → List (List ℕ) → List (List ℕ)
kept_of rooted parts = fold (with_part rooted) [] parts

-- a path without detours: the parts that are kept, after a `/` where it begins with one
abbrev pub normal_of : List ℕ → List ℕ
normal_of p = (if is_rooted p then codes "/" else []) ++ join_by (λ part. part) (codes "/") (kept_of (is_rooted p) (slice_split is_slash p))
