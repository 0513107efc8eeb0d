use Rattle.std.proofs.Common.{◌∙◌, arith, sym, ap, Some, codes, [], if◌then◌else◌}
use Rattle.hack_base.specs.PathTexts.{or_if_empty, is_rooted}
use Rattle.hack_base.proofs.PathLemmas.{split_last, or-first, parent-first, parent-none}
use Rattle.hack_base.proofs.paths.parent.Goals as goal

pub returns-in-Some : goal.returns-in-Some
returns-in-Some c =
    let p = c.args.p.now in
    let cut = split_last 47 (omega arith) p (Some (c.in-Some.front, c.in-Some.field-0-1)) c.in-Some.ensures.cases in
    let other = if is_rooted p then codes "/" else [] in
    sym (or-first c.in-Some.front.now other (sym c.is_empty.ensures ∙ c.if-not-is_empty.true)) ∙ ap (λ front. or_if_empty front other) cut.1

pub returns-in-Some-2 : goal.returns-in-Some-2
returns-in-Some-2 c = parent-first c.args.p.now (c.in-Some.front, c.in-Some.field-0-1) c.in-Some.ensures.cases (sym c.is_empty.ensures ∙ c.if-not-is_empty.false)

pub returns-in-None : goal.returns-in-None
returns-in-None c = parent-none c.args.p.now c.in-None.ensures.cases
