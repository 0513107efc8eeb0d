use Rattle.std.proofs.Common.{◌≡◌, ◌∙◌, IfOk, List, ℕ, sym, subst, string_bytes}
use Rattle.hack_base.proofs.PathLemmas.{join-slash}
use Rattle.hack_base.proofs.paths.join.Goals as goal

pub returns : goal.returns
returns c =
    let joined = join-slash c.args.dir.now c.args.p.now (sym c.is_empty.ensures ∙ c.if-is_empty.false) c.if-ends_with.ensures.cases c.if-starts_with.ensures.cases in
    let P : List ℕ → Type 0 = λ l. IfOk c.format-2.result (λ t. string_bytes t ≡ l) in
    subst P joined c.format-2.ensures.ok
