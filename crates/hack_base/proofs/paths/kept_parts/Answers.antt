use Rattle.std.proofs.Common.{◌∙◌, [], arith, sym, ap, length, take, fold}
use Rattle.std.specs.List.{slice_split}
use Rattle.std.proofs.lemmas.Iterator.Consumers.{YieldsList-turn, YieldsList-end}
use Rattle.std.proofs.lemmas.Iterator.Splits.{YieldsList-from_str_split}
use Rattle.std.proofs.lemmas.List.{length_push, take_all}
use Rattle.std.proofs.lemmas.List.Sums.{fold_more}
use Rattle.hack_base.specs.PathTexts.{with_part, is_slash}
use Rattle.hack_base.proofs.paths.kept_parts.Goals as goal

pub loop-part-preserved : goal.loop-part-preserved
loop-part-preserved c =
    let step = with_part c.args.rooted in
    let parts = slice_split is_slash c.args.p.now in
    let part = c.in-Some.part.now in
    let turn = YieldsList-turn (YieldsList-from_str_split 47 c.args.p.now (omega arith) (cc) (cc) (cc)) c.loop-part.yielded _ c.loop-part.yielded_by _ _ c.in-Some.part c.in-Some.is c.next.ensures.steps in
    rw (length_push c.loop-part.yielded c.in-Some.part) (c.in_ok-keep.ensures ∙ ap (λ kept. step kept part) c.loop-part.invariant ∙ ap (step (fold step [] (take (length c.loop-part.yielded) parts))) turn.1 ∙ sym (fold_more step [] parts (length c.loop-part.yielded) part turn.0))

pub returns : goal.returns
returns c =
    let step = with_part c.args.rooted in
    let parts = slice_split is_slash c.args.p.now in
    let end = YieldsList-end (YieldsList-from_str_split 47 c.args.p.now (omega arith) (cc) (cc) (cc)) c.loop-part.yielded _ c.loop-part.yielded_by _ _ c.in-None.is c.next.ensures.steps in
    c.loop-part.invariant ∙ ap (fold step []) (take_all (length c.loop-part.yielded) parts (omega (arith, end.1)))
