use Rattle.std.proofs.Common.{◌∙◌, ap}
use Rattle.hack_journal.proofs.WayLemmas.{unrooted_is}
use Rattle.hack_journal.proofs.place.unrooted.Goals as goal

pub returns : goal.returns
returns c = ap (λ r. r.now) c.unwrap_or.ensures ∙ unrooted_is c.args.path c.strip_prefix.result c.strip_prefix.ensures.cases
