use Rattle.std.proofs.Common.{◌+◌, subst}
use Rattle.std.specs.Io.KnownBytes.{Appends}
use Rattle.std.specs.declared.io.Error.{Error}
use Rattle.std.proofs.KnownBytes.{Appends-nil, Appends-trans}
use Rattle.hack_base.proofs.WriteLemmas.{counts-refused}
use Rattle.hack_base.specs.WriteLaws.{NoFewer-refl, NoFewer-trans, failed-later}
use Rattle.hack_powerset_list.proofs.PageLemmas.{texts-more, front-with-page}
use Rattle.hack_powerset_list.proofs.writes.write_texts.Goals as goal

pub loop-text-init : goal.loop-text-init
loop-text-init g c = record {
  written = Appends-nil _;
  count = NoFewer-refl _;
}

pub returns-in_err-write_front-clause-front : goal.returns-in_err-write_front-clause-front
returns-in_err-write_front-clause-front g c =
    front-with-page (λ text. text.now) c.args.texts.now (c.loop-text.text-index + 1) _ _ _ _ _ (texts-more (λ text. text.now) c.args.texts.now c.loop-text.text-index _ c.loop-text-test.true) c.loop-text.invariant.written c.in_err-write_front.ensures.front

pub returns-in_err-write_front-clause-counted : goal.returns-in_err-write_front-clause-counted
returns-in_err-write_front-clause-counted g c =
    counts-refused Unit Error _ _ _ _ c.from_residual.ensures.1 (failed-later _ _ _ c.loop-text.invariant.count c.in_err-write_front.ensures.counted)

pub loop-text-preserved : goal.loop-text-preserved
loop-text-preserved g c = record {
  written = subst (Appends (g.W.Sink.contents c.args.out.now) (g.W.Sink.contents c.write_front.new.out)) (texts-more (λ text. text.now) c.args.texts.now c.loop-text.text-index _ c.loop-text-test.true)
      (Appends-trans _ _ _ _ _ c.loop-text.invariant.written c.in_ok-write_front.ensures.all);
  count = NoFewer-trans _ _ _ c.loop-text.invariant.count c.in_ok-write_front.ensures.counted;
}
