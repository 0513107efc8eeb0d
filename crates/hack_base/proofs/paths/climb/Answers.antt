use Rattle.std.proofs.Common.{◌∙◌, ◌-◌, sym, ap, length, take, is_some, unwrap_or}
use Rattle.std.specs.List.{slice_get}
use Rattle.hack_base.specs.Names.{names_behind}
use Rattle.hack_base.proofs.NormalLemmas.{climbed-none, climbed-some}
use Rattle.hack_base.proofs.paths.climb.Goals as goal

pub returns-in-Some-clause-tells : goal.returns-in-Some-clause-tells
returns-in-Some-clause-tells c =
    let last = c.in-Some.ensures.value ∙ ap (λ l. slice_get l (length l - 1)) c.deref.ensures.value in
    sym (ap is_some (climbed-none c.args.rooted c.args.kept.now.items c.in-Some.last.now last (sym c.eq.ensures ∙ c.if-eq.true)))

pub returns-in-Some-clause-kept : goal.returns-in-Some-clause-kept
returns-in-Some-clause-kept c =
    let items = c.args.kept.now.items in
    let last = c.in-Some.ensures.value ∙ ap (λ l. slice_get l (length l - 1)) c.deref.ensures.value in
    sym (ap (λ o. unwrap_or o (names_behind items)) (climbed-none c.args.rooted items c.in-Some.last.now last (sym c.eq.ensures ∙ c.if-eq.true)))

pub returns-in-Some-2-clause-tells : goal.returns-in-Some-2-clause-tells
returns-in-Some-2-clause-tells c =
    let last = c.in-Some.ensures.value ∙ ap (λ l. slice_get l (length l - 1)) c.deref.ensures.value in
    sym (ap is_some (climbed-some c.args.rooted c.args.kept.now.items c.in-Some.last.now last (sym c.eq.ensures ∙ c.if-eq.false)))

pub returns-in-Some-2-clause-kept : goal.returns-in-Some-2-clause-kept
returns-in-Some-2-clause-kept c =
    let items = c.args.kept.now.items in
    let last = c.in-Some.ensures.value ∙ ap (λ l. slice_get l (length l - 1)) c.deref.ensures.value in
    ap names_behind c.pop.ensures.rest ∙ ap (λ n. names_behind (take (n - 1) items)) (sym c.deref.ensures.len ∙ ap length c.deref.ensures.value) ∙ sym (ap (λ o. unwrap_or o (names_behind items)) (climbed-some c.args.rooted items c.in-Some.last.now last (sym c.eq.ensures ∙ c.if-eq.false)))
