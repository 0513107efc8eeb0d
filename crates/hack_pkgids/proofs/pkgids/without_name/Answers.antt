use Rattle.hack_pkgids.proofs.TextLemmas.{behind-from_strip}
use Rattle.hack_pkgids.proofs.pkgids.without_name.Goals as goal

pub returns : goal.returns
returns c = behind-from_strip c.args.name.now c.args.spec.now c.strip_prefix.result c.strip_prefix.ensures.cases
