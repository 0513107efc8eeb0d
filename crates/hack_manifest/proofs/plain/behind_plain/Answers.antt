use Rattle.std.proofs.Common.{false, arith}
use Rattle.std.proofs.lemmas.Bool.Decides.{nat_tests}
use Rattle.toml_parser.specs.Strings.{is_plain}
use Rattle.toml_parser.proofs.LexicalLemmas.{IsCharBoundary-wide_run}
use Rattle.hack_manifest.proofs.plain.behind_plain.Goals as goal

pub range_from-requires : goal.range_from-requires
range_from-requires c _ =
    rw (c.plain_len.ensures.len, c.as_bytes.ensures.value) (IsCharBoundary-wide_run (is_plain c.args.quote false) c.args.s.now (λ b e. grind (arith, nat_tests)))
