-- Texts made of pieces, a part for each.
use Rattle.std.specs.Prelude.{◌≡◌, ℕ, List, [], ◌∷◌, ◌++◌}
use Rattle.hack_manifest.specs.Paths.{View}

-- the text is such a part of each piece, in order, and the tail
abbrev pub AreParts : (View → List ℕ → Type 0) → List View → List ℕ → List ℕ → Type 0
AreParts IsPart [] tail new = new ≡ tail
AreParts IsPart (p ∷ ps) tail new = (part rest : List ℕ) × (new ≡ part ++ rest) × IsPart p part × AreParts IsPart ps tail rest
