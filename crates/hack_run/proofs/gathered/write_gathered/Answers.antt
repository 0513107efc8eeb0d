use Rattle.std.proofs.KnownBytes.{Keeps-trans}
use Rattle.std.specs.Io.KnownBytes.{append_known}
use Rattle.hack_base.specs.WriteLaws.{NoFewer-trans}
use Rattle.hack_run.specs.InternalExtensions.{extends_then}
use Rattle.hack_run.proofs.gathered.write_gathered.Goals as goal

pub returns-in_err-write_some-clause-grown : goal.returns-in_err-write_some-clause-grown
returns-in_err-write_some-clause-grown g c =
    let contents = g.O.Sink.contents in
    extends_then (contents c.args.out.now) (contents c.loop-out.out) (contents c.write_some.new.out) c.loop-out.invariant.1 c.in_err-write_some.ensures.grown

pub loop-out-preserved : goal.loop-out-preserved
loop-out-preserved g c =
    let contents = g.O.Sink.contents in (
      Keeps-trans (append_known (contents c.args.out.now) c.args.gathered.now.items) (append_known (contents c.loop-out.out) c.loop-out.gathered.items)
          (append_known (contents c.write_some.new.out) c.write_some.new.gathered.items) c.loop-out.invariant.0 c.in_ok-write_some.ensures.bytes,
      extends_then (contents c.args.out.now) (contents c.loop-out.out) (contents c.write_some.new.out) c.loop-out.invariant.1 c.in_ok-write_some.ensures.grown,
      NoFewer-trans _ _ _ c.loop-out.invariant.2 c.in_ok-write_some.ensures.counted,
    )
