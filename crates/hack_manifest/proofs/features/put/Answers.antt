use Rattle.hack_manifest.proofs.FeatureLemmas.{put-shown}
use Rattle.hack_manifest.proofs.features.put.Goals as goal

pub returns : goal.returns
returns c =
    put-shown c.args.map.now c.insert.new.self c.in_ok-from_str.field-0 c.in_ok-texts.texts _ _
    c.in_ok-insert.ensures.entries c.in_ok-from_str.ensures.ok c.in_ok-texts.ensures
