-- What follows the parts of a pair, as `toml` reads them.
use Rattle.std.specs.Prelude.{◌≡◌, ℕ, true, List, [], ◌∷◌}
use Rattle.toml_parser.specs.Lexical.{first, is_bare, split_while, skip_ws}

-- the text is one bare name and `=`, and nothing else
pub record IsBareName (text name : List ℕ) : Type 0 where
  pub front : name ≡ (split_while is_bare text).0
  pub some : is_bare (first text) ≡ true
  pub rest : skip_ws (split_while is_bare text).1 ≡ 61 ∷ []
