use Rattle.std.proofs.Common.{ap, sym, ◌∙◌, not}
use Rattle.hack_metadata.proofs.FeatureLemmas.{has_items-view}
use Rattle.hack_metadata.proofs.metadata.package.has_items.Goals as goal

pub returns : goal.returns
returns c = ap not c.is_empty.ensures ∙ sym (has_items-view c.args.list.now)
