use Rattle.std.proofs.Common.{◌<◌, ◌∙◌, length, map, sym, arith}
use Rattle.std.proofs.lemmas.List.{length-map}
use Rattle.hack_metadata.specs.RecordViews.{place_at}
use Rattle.hack_metadata.specs.MetadataView.{metadata_view}
use Rattle.hack_load.proofs.BuildLemmas.{completes-all, completes-more, id-at, misses-more, node-fault}
use Rattle.hack_load.proofs.context.features_of.Goals as goal

pub returns-in-Err-clause-err : goal.returns-in-Err-clause-err
returns-in-Err-clause-err c =
    let ms = c.args.metadata.now.workspace_members.items in
    let i = c.loop-at.at in
    let id = c.index-id.result.now in
    let lt : i < length ms = omega (arith, c.loop-at-test.true, c.requires) in
    node-fault (metadata_view c.args.metadata.now) c.args.asked id.index c.in-Err.fault (i, omega (arith, lt, length-map ms place_at), sym (id-at ms i id lt c.index-id.ensures)) c.in-Err.ensures.err

pub loop-at-preserved : goal.loop-at-preserved
loop-at-preserved c =
    let m = metadata_view c.args.metadata.now in
    let ms = c.args.metadata.now.workspace_members.items in
    let i = c.loop-at.at in
    let id = c.index-id.result.now in
    let lt : i < length ms = omega (arith, c.loop-at-test.true, c.requires) in
    let is = id-at ms i id lt c.index-id.ensures in (
      completes-more m c.args.asked (map place_at ms) c.args.manifests.now i id.index c.index-manifests-at.result c.in-Ok.features c.loop-at.found.items c.push.new.self.items
          (c.requires ∙ sym (length-map ms place_at)) c.loop-at-test.true c.index-manifests-at.is is c.in-Ok.ensures.ok c.in_ok-push.ensures.items c.loop-at.invariant.0,
      misses-more m c.args.asked (map place_at ms) i id.index (omega (arith, lt, length-map ms place_at)) is c.in-Ok.ensures.never c.loop-at.invariant.1,
    )

pub returns-clause-ok : goal.returns-clause-ok
returns-clause-ok c =
    let ms = c.args.metadata.now.workspace_members.items in
    completes-all (metadata_view c.args.metadata.now) c.args.asked (map place_at ms) c.args.manifests.now c.loop-at.at c.loop-at.found.items (c.requires ∙ sym (length-map ms place_at)) c.loop-at-test.false c.loop-at.invariant.0
