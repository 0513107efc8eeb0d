-- What is said of files that are written back, and of a call that failed.
use Rattle.std.specs.Prelude.{◌≡◌, ◌⊎◌, ◌++◌, [], ◌∷◌, ℕ, Bool, not, false, List, Option, Some, None, length, map, if◌then◌else◌}
use Rattle.std.specs.List.{filter, flat_map}
use Rattle.std.specs.Str.{bytes_eq}
use Rattle.hack_base.specs.Counters.{GrowsBy}
use Rattle.hack_base.specs.Cuts.{front_of}
use Rattle.hack_base.specs.Streams.{Stream, WritesAll, WritesText}
use Rattle.hack_term.specs.Lines.{error_line, info_line}
use Rattle.hack_term.specs.declared.term.Coloring.{Coloring}
use Rattle.hack_files.specs.BackTexts.{restoring_text, unwritten_text}
use Rattle.hack_files.specs.Restore.{AreDistinct, Back, Kept}
use Rattle.hack_files.specs.declared.fs.Files.{Ghosts as Filing}

-- a file that is written back, or whose write is refused
pub record WriteBack : Type 0 where
  pub file : Kept
  pub written : Bool

-- the paths of those that were refused, in order
abbrev pub refused_among : List WriteBack → List (List ℕ)
refused_among backs = map (λ b. b.file.path) (filter (λ b. not b.written) backs)

-- this is the path that is reported otherwise
abbrev pub is_reported : Option (List ℕ) → List ℕ → Bool
is_reported None path = false
is_reported (Some reported) path = bytes_eq reported path

-- the line before a write, in verbose mode
abbrev pub restoring_lines : Coloring → Bool → List ℕ → List (List ℕ)
restoring_lines coloring verbose path = if verbose then info_line coloring (restoring_text path) ∷ [] else []

-- the error of a path that can't be written, unless that is reported otherwise
abbrev pub refusal_lines : Coloring → Option (List ℕ) → List ℕ → List (List ℕ)
refusal_lines coloring reported path = if is_reported reported path then [] else error_line coloring (unwritten_text path) ∷ []

abbrev pub back_lines : Coloring → Bool → Option (List ℕ) → WriteBack → List (List ℕ)
back_lines coloring verbose reported b =
    restoring_lines coloring verbose b.file.path ++ (if b.written then [] else refusal_lines coloring reported b.file.path)

-- These files were written back, but for those that were refused, as many as calls failed; all others hold their bytes
-- again, where their paths are distinct. Just the lines of these were said, in order.
pub record SaysBack {F : Type 0} (f : Filing F) (before after : F) (coloring : Coloring) (verbose : Bool)
    (reported : Option (List ℕ)) (files : List Kept) (failed : ℕ) (old new : Stream) : Type 0 where
  pub backs : List WriteBack
  pub each : map (λ b. b.file) backs ≡ files
  pub refused : f.refuses before after (refused_among backs)
  pub number : length (refused_among backs) ≡ failed
  pub counted : GrowsBy failed (f.failed before) (f.failed after)
  pub back : f.tells → AreDistinct files → Back files (refused_among backs) (f.bytes_at before) (f.bytes_at after)
  pub said : WritesAll (flat_map (back_lines coloring verbose reported) backs) old new

-- why a call failed: nothing, or one info line, the first of a text
abbrev pub SaysReason : Coloring → Stream → Stream → Type 0
SaysReason coloring old new = (new ≡ old) ⊎ ((text : List ℕ) × WritesText (info_line coloring (front_of 10 text)) old new)
