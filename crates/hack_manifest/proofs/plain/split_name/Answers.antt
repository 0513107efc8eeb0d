use Rattle.std.proofs.Common.{arith}
use Rattle.std.proofs.lemmas.Bool.Decides.{nat_tests}
use Rattle.toml_parser.specs.Lexical.{is_bare}
use Rattle.toml_parser.proofs.LexicalLemmas.{IsCharBoundary-ascii_run}
use Rattle.hack_manifest.proofs.plain.split_name.Goals as goal

pub split_at-requires : goal.split_at-requires
split_at-requires c =
    rw (c.bare_len.ensures.len, c.as_bytes.ensures.value) (IsCharBoundary-ascii_run is_bare c.args.s.now c.utf8.s (λ b e. grind (arith, nat_tests)))
