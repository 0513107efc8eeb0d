use Rattle.std.proofs.Common.{◌++◌, codes}
use Rattle.std.specs.declared.io.Error.{Error}
use Rattle.std.proofs.KnownBytes.{Appends-trans}
use Rattle.hack_base.proofs.WriteLemmas.{AppendsFront-then, AppendsFront-append, counts-refused, errors-later}
use Rattle.hack_base.specs.WriteLaws.{failed-later}
use Rattle.hack_base.proofs.writes.write_line.Goals as goal

pub returns-in_err-write_front-clause-front : goal.returns-in_err-write_front-clause-front
returns-in_err-write_front-clause-front g c =
    AppendsFront-append _ _ (c.args.label.now ++ c.args.text.now) (codes "\n") (AppendsFront-append _ _ c.args.label.now c.args.text.now c.write_front.ensures.front)

pub returns-in_err-write_front-2-clause-front : goal.returns-in_err-write_front-2-clause-front
returns-in_err-write_front-2-clause-front g c =
    AppendsFront-append _ _ (c.args.label.now ++ c.args.text.now) (codes "\n") (AppendsFront-then _ _ _ c.args.label.now c.args.text.now c.in_ok-write_front.ensures.all c.write_front-2.ensures.front)

pub returns-clause-front : goal.returns-clause-front
returns-clause-front g c =
    AppendsFront-then _ _ _ (c.args.label.now ++ c.args.text.now) (codes "\n") (Appends-trans _ _ _ c.args.label.now c.args.text.now c.in_ok-write_front.ensures.all c.in_ok-write_front-2.ensures.all) c.write_front-3.ensures.front

pub returns-in_err-write_front-2-clause-counted : goal.returns-in_err-write_front-2-clause-counted
returns-in_err-write_front-2-clause-counted g c = counts-refused Unit Error _ _ _ _ c.from_residual-in_err-write_front-2.ensures.1 (failed-later _ _ _ c.in_ok-write_front.ensures.counted c.in_err-write_front-2.ensures.counted)

pub returns-clause-counted : goal.returns-clause-counted
returns-clause-counted g c =
    errors-later Unit Error _ _ _ _ c.in_ok-write_front.ensures.counted (errors-later Unit Error _ _ _ _ c.in_ok-write_front-2.ensures.counted c.write_front-3.ensures.counted)
