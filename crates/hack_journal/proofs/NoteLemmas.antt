-- The paths of the files that entries have.
use Rattle.std.proofs.Common.{◌≡◌, ◌≢◌, ◌+◌, ◌-◌, ℕ, zero, suc, List, [], ◌∷◌, ◌++◌, Some, None, String, string_bytes, get_or, length, take, refl, sym, ◌∙◌, ap, arith}
use Rattle.std.specs.Option.{option_map}
use Rattle.std.specs.List.{slice_get}
use Rattle.std.proofs.Math.Seq.{take-append_seam}
use Rattle.std.proofs.lemmas.List.{length-append, length-map, map-append, take-map}
use Rattle.std.proofs.lemmas.Option.{slice_get-get_or, slice_get-map, slice_get_past}
use Rattle.hack_base.specs.Names.{names_of}
use Rattle.hack_journal.specs.Rows.{file_at, later_files}

length-later : (j : List ℕ) (n : ℕ) → length (later_files j n) ≡ n
length-later j zero = refl
length-later j (suc n) = omega (arith, length-append (later_files j n) (file_at j (suc n) ∷ []), length-later j n)

pub count_later : {Y : Type 0} (j : List ℕ) (ps : List (String Y)) (n : ℕ) → names_of ps ≡ later_files j n → length ps ≡ n
count_later j ps n h = sym (length-map ps string_bytes) ∙ ap length h ∙ length-later j n

slice_get_end : (xs : List (List ℕ)) (q : List ℕ) → slice_get (xs ++ q ∷ []) (length xs) ≡ Some q
slice_get_end [] q = refl
slice_get_end (x ∷ xs) q = slice_get_end xs q

-- the last of the paths is that of the file that comes next
pub last_later : {Y : Type 0} (j : List ℕ) (ps : List (String Y)) (n : ℕ) (p : String Y) → names_of ps ≡ later_files j n → slice_get ps (length ps - 1) ≡ Some p → string_bytes p ≡ file_at j n
last_later j ps zero p h is =
    let none : slice_get ps (length ps - 1) ≡ None = slice_get_past ps (length ps - 1) (omega (arith, count_later j ps zero h)) in
    let y : Some p ≡ None = sym is ∙ none in cc
last_later j ps (suc n) p h is =
    let i : length ps - 1 ≡ length (later_files j n) = omega (arith, count_later j ps (suc n) h, length-later j n) in
    let last : slice_get (names_of ps) (length (later_files j n)) ≡ Some (file_at j (suc n)) = ap (λ (l : List (List ℕ)). slice_get l (length (later_files j n))) h ∙ slice_get_end (later_files j n) (file_at j (suc n)) in
    let named : slice_get (names_of ps) (length (later_files j n)) ≡ Some (string_bytes p) = slice_get-map string_bytes ps (length (later_files j n)) ∙ ap (option_map string_bytes) (ap (slice_get ps) (sym i) ∙ is) in
    let y : Some (string_bytes p) ≡ Some (file_at j (suc n)) = sym named ∙ last in cc

-- the same, by the number of files
pub last_at : {Y : Type 0} (j : List ℕ) (ps : List (String Y)) (n : ℕ) (p : String Y) → names_of ps ≡ later_files j n → n ≢ 0 → p ≡ get_or ps (n - 1) p → string_bytes p ≡ file_at j n
last_at j ps n p h some is =
    let len : length ps ≡ n = count_later j ps n h in
    let at : slice_get ps (length ps - 1) ≡ Some p = ap (λ k. slice_get ps (k - 1)) len ∙ slice_get-get_or ps (n - 1) p (omega (arith, len, some)) ∙ ap Some (sym is) in
    last_later j ps n p h at

-- one file less
pub later_less : {Y : Type 0} (j : List ℕ) (ps : List (String Y)) (n m len : ℕ) → names_of ps ≡ later_files j n → len ≡ length ps → m ≡ n - 1 → names_of (take (len - 1) ps) ≡ later_files j m
later_less j ps zero m len h is less =
    let low : len - 1 ≡ 0 = omega (arith, is, count_later j ps zero h) in
    let none : m ≡ 0 = omega (arith, less) in
    rw (low, none) refl
later_less j ps (suc n) m len h is less =
    let low : len - 1 ≡ length (later_files j n) = omega (arith, is, count_later j ps (suc n) h, length-later j n) in
    let one : n ≡ m = omega (arith, less) in
    sym (take-map string_bytes (len - 1) ps) ∙ ap (take (len - 1)) h ∙ ap (λ k. take k (later_files j (suc n))) low ∙ take-append_seam (later_files j n) (file_at j (suc n) ∷ []) ∙ ap (later_files j) one

-- one file more
pub later_more : {Y : Type 0} (j : List ℕ) (ps : List (String Y)) (n m : ℕ) (p : String Y) → names_of ps ≡ later_files j n → string_bytes p ≡ file_at j (n + 1) → m ≡ n + 1 → names_of (ps ++ p ∷ []) ≡ later_files j m
later_more j ps n m p h is more =
    let one : suc n ≡ m = omega (arith, more) in
    let next : file_at j (n + 1) ≡ file_at j (suc n) = ap (file_at j) (omega arith) in
    map-append string_bytes ps (p ∷ []) ∙ ap (λ (l : List (List ℕ)). l ++ string_bytes p ∷ []) h ∙ ap (λ (q : List ℕ). later_files j n ++ q ∷ []) (is ∙ next) ∙ ap (later_files j) one
