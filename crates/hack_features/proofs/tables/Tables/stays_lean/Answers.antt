use Rattle.std.proofs.Common.{◌∙◌, sym, ap}
use Rattle.hack_samples.specs.Sets.{rows_of}
use Rattle.hack_features.specs.Samples.{positions_of}
use Rattle.hack_features.proofs.MemberLemmas.{lean-more, clear_of}
use Rattle.hack_features.proofs.tables.Tables.stays_lean.Goals as goal

pub returns : goal.returns
returns c =
    let rows = rows_of c.args.self.now.spares.items in
    let s = positions_of c.args.set.now in
    c.is_clear.ensures ∙ ap (λ l. clear_of (rows_of l) c.args.last s) c.as_slice.ensures.value ∙ sym (lean-more rows s c.args.last c.requires)
