use Rattle.std.proofs.Common.{◌∙◌, ap, arith, refl}
use Rattle.std.proofs.lemmas.Str.Pattern.{strip_prefix_char}
use Rattle.hack_session.proofs.ToolchainLemmas.{name_stripped}
use Rattle.hack_session.proofs.rustup.without_plus.Goals as goal

pub returns : goal.returns
returns c =
    let name = c.args.toolchain.now in
    ap (λ b. b.now) c.unwrap_or.ensures ∙ name_stripped name c.strip_prefix.result c.args.toolchain refl (strip_prefix_char 43 name c.strip_prefix.result c.strip_prefix.ensures.cases (omega arith))
