use Rattle.std.proofs.Common.{◌≡◌, ◌∙◌, ◌++◌, ◌+◌, ◌∷◌, [], List, ap, refl, subst, sym, take}
use Rattle.std.proofs.lemmas.List.{take_all}
use Rattle.hack_base.proofs.NameLemmas.{length-names, names-more}
use Rattle.hack_base.specs.Names.{Name, names_of}
use Rattle.hack_base.specs.Streams.{stream_of}
use Rattle.hack_recovery.specs.Telling.{SaysRestored}
use Rattle.hack_recovery.proofs.SaidLemmas.{said_more}
use Rattle.hack_recovery.proofs.restore.tell_all.Goals as goal

pub loop-path-init : goal.loop-path-init
loop-path-init g c = refl

pub loop-path-preserved : goal.loop-path-preserved
loop-path-preserved g c =
    let before = take c.loop-path.path-index (names_of c.args.paths.now) in
    let path = c.as_str.result.now in
    let more : take (c.loop-path.path-index + 1) (names_of c.args.paths.now) ≡ before ++ path ∷ [] =
    names-more c.args.paths.now c.loop-path.path-index c.path-item.result c.loop-path-test.true c.path-item.is ∙ ap (λ n. before ++ n ∷ []) (sym c.as_str.ensures.value) in
    said_more c.args.term.now.coloring c.args.dir.now before _ path _ (stream_of g.E.Sink c.loop-path.err) _ more c.loop-path.invariant c.tell_restored.ensures

pub returns : goal.returns
returns g c =
    subst (λ (l : List Name). SaysRestored c.args.term.now.coloring c.args.dir.now l (stream_of g.E.Sink c.args.err.now) (stream_of g.E.Sink c.loop-path.err)) (take_all c.loop-path.path-index (names_of c.args.paths.now) (rw (length-names c.args.paths.now) c.loop-path-test.false)) c.loop-path.invariant
