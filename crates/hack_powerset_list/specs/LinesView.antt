-- What `Texts` holds.
use Rattle.std.specs.Prelude.{◌≡◌, ◌++◌, List, map, string_bytes, codes}
use Rattle.hack_base.specs.Names.{Name, names_of}
use Rattle.hack_powerset_list.specs.declared.lines.Texts.{Texts}

-- the texts of the lines of `cargo check`, with the names of the candidates
pub record AreTexts (names : List Name) (t : Texts) : Type 0 where
  pub plain : string_bytes t.plain ≡ codes "cargo check"
  pub no_default : string_bytes t.no_default ≡ codes "cargo check --no-default-features"
  pub first : names_of t.first.items ≡ map (λ name. codes " --features " ++ name) names
  pub next : names_of t.next.items ≡ map (λ name. codes "," ++ name) names
