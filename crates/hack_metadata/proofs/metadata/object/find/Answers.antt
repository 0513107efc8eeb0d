use Rattle.std.proofs.Common.{ap, ◌∙◌, option_map}
use Rattle.serde_json.specs.View.{view}
use Rattle.serde_json.proofs.Views.{view-lookup}
use Rattle.hack_metadata.proofs.RuleLemmas.{shown}
use Rattle.hack_metadata.proofs.metadata.object.find.Goals as goal

pub returns : goal.returns
returns c = shown c.get.result ∙ ap (option_map view) c.get.ensures.value ∙ view-lookup c.args.key.now c.args.object.now.entries
