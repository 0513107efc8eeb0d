use Rattle.std.proofs.Common.{◌∙◌, arith, sym, ap, Some, None}
use Rattle.hack_base.specs.PathTexts.{or_if_empty}
use Rattle.hack_base.proofs.PathLemmas.{split_last, or-first, or-second}
use Rattle.hack_base.proofs.paths.before_ending.Goals as goal

pub returns-in-Some : goal.returns-in-Some
returns-in-Some c =
    let part = c.args.part.now in
    let cut = split_last 46 (omega arith) part (Some (c.in-Some.front, c.in-Some.field-0-1)) c.in-Some.ensures.cases in
    sym (or-first c.in-Some.front.now part (sym c.is_empty.ensures ∙ c.if-not-is_empty.true)) ∙ ap (λ front. or_if_empty front part) cut.1

pub returns-in_default : goal.returns-in_default
returns-in_default c =
    let part = c.args.part.now in
    let cut = split_last 46 (omega arith) part (Some (c.in-Some.front, c.in-Some.field-0-1)) c.in-Some.ensures.cases in
    sym (or-second c.in-Some.front.now part (sym c.is_empty.ensures ∙ c.if-not-is_empty.false)) ∙ ap (λ front. or_if_empty front part) cut.1

pub returns-in_default-2 : goal.returns-in_default-2
returns-in_default-2 c =
    let part = c.args.part.now in
    let none = rw c.in_default.is at c.rsplit_once.ensures.cases in
    ap (λ front. or_if_empty front part) (sym (split_last 46 (omega arith) part None none).1)
