use Rattle.std.proofs.Common.{map, string_bytes}
use Rattle.std.proofs.lemmas.Result.{err_from_is_err_and}
use Rattle.hack_words.proofs.AnswerLemmas.{cut-told}
use Rattle.hack_words.proofs.cli.parse.cut.Goals as goal

pub returns-in_err-all_uses : goal.returns-in_err-all_uses
returns-in_err-all_uses c =
    let p = err_from_is_err_and c.from_residual.result c.from_residual.ensures.1 in
    rw (p.1, p.2) (cut-told (map string_bytes c.args.words.items) c.in_err-all_uses.field-0.0 c.in_err-all_uses.ensures.uses)
