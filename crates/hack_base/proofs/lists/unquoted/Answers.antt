use Rattle.std.proofs.Common.{◌≡◌, true, arith}
use Rattle.std.proofs.lemmas.Str.{IsCharBoundary-after_ascii}
use Rattle.hack_base.specs.Lists.{is_quoted}
use Rattle.hack_base.proofs.ListLemmas.{is_quoted-ends}
use Rattle.hack_base.proofs.lists.unquoted.Goals as goal

pub range-requires-clause-start_boundary : goal.range-requires-clause-start_boundary
range-requires-clause-start_boundary c =
    let h : is_quoted c.args.text.now ≡ true = cc in
    let ends = is_quoted-ends c.args.text.now h in
    λ _. IsCharBoundary-after_ascii c.args.text.now 0 c.utf8.text (omega arith) ends.1
