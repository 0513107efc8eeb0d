-- Lists of names in one text.
use Rattle.std.specs.Prelude.{ℕ, Bool, List, ◌==◌, ◌⊎◌, ◌&&◌, ◌||◌, ◌-◌, if◌then◌else◌, length, take, drop, Contains, slice_index, nat_lt}
use Rattle.std.specs.List.{slice_split, list_any, filter}

-- a comma
abbrev pub comma : ℕ
comma = 44

-- a space
abbrev pub space : ℕ
space = 32

-- the text has a comma or a space
abbrev pub HasSeparator : List ℕ → Type 0
HasSeparator text = Contains text comma ⊎ Contains text space

-- the same as a test
abbrev pub is_list : List ℕ → Bool
is_list text = list_any (λ b. b == comma) text || list_any (λ b. b == space) text

-- a group is split at commas where it has one, else at spaces
abbrev pub separator_of : List ℕ → ℕ
separator_of text = if list_any (λ b. b == comma) text then comma else space

-- the names of a group: the parts between its separators, empty ones too
abbrev pub group_names : List ℕ → List (List ℕ)
group_names text = slice_split (λ b. b == separator_of text) text

-- the text begins with this quote and ends with a second one
abbrev pub is_between : ℕ → List ℕ → Bool
is_between quote text = nat_lt 1 (length text) && (slice_index text 0 == quote) && (slice_index text (length text - 1) == quote)

-- the text is enclosed in two ' or two "
abbrev pub is_quoted : List ℕ → Bool
is_quoted text = is_between 39 text || is_between 34 text

-- the text without the pair of equal quotes around it, where there is one
abbrev pub without_quotes : List ℕ → List ℕ
without_quotes text = if is_quoted text then take (length text - 2) (drop 1 text) else text

-- the names of a list: those of a group, without the pair of quotes around it, except empty ones
abbrev pub list_names : List ℕ → List (List ℕ)
list_names text = filter (λ name. nat_lt 0 (length name)) (group_names (without_quotes text))
