use Rattle.std.proofs.Common.{◌∙◌, sym, ap, not}
use Rattle.toml.proofs.Views.{has_items-view}
use Rattle.hack_manifest.proofs.lookup.has_values.Goals as goal

pub returns : goal.returns
returns c = ap not c.is_empty.ensures ∙ rw c.as_slice.ensures.value (sym (has_items-view c.args.array.now.items))
