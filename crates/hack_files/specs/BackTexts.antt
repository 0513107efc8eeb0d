-- The texts on a file that is written back.
use Rattle.std.specs.Prelude.{◌++◌, ℕ, List, codes}

abbrev pub restoring_text : List ℕ → List ℕ
restoring_text path = codes "restoring " ++ path

abbrev pub unwritten_text : List ℕ → List ℕ
unwritten_text path = codes "failed to write to file `" ++ path ++ codes "`"
