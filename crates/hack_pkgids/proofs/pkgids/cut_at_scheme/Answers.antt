use Rattle.hack_pkgids.proofs.TextLemmas.{scheme-from_split}
use Rattle.hack_pkgids.proofs.pkgids.cut_at_scheme.Goals as goal

pub returns : goal.returns
returns c = scheme-from_split c.args.text.now c.split_once.result c.split_once.ensures.cases
