use Rattle.std.proofs.Common.{◌≡◌, ◌∙◌, ◌++◌, sym, ap}
use Rattle.hack_base.proofs.PathLemmas.{under-is, behind_folder, not_in_folder}
use Rattle.hack_base.proofs.paths.under.Goals as goal

pub returns-in-Some : goal.returns-in-Some
returns-in-Some c =
    let h = c.in-Some.ensures.cases in
    let front : c.args.p.now ≡ c.args.dir.now ++ c.in-Some.rest.now = h.1.1 ∙ ap (λ l. c.args.dir.now ++ l) (sym h.2) in
    ap (λ r. r.now) c.unwrap_or.ensures
    ∙ behind_folder c.args.p c.args.dir.now c.in-Some.rest.now c.strip_prefix-in-Some.result front c.strip_prefix-in-Some.ensures.cases
    ∙ sym (under-is c.args.p.now c.args.dir.now (sym c.is_empty.ensures ∙ c.if-is_empty.false))

pub returns-in-None : goal.returns-in-None
returns-in-None c =
    sym (not_in_folder c.args.p.now c.args.dir.now c.in-None.ensures.cases) ∙ sym (under-is c.args.p.now c.args.dir.now (sym c.is_empty.ensures ∙ c.if-is_empty.false))
