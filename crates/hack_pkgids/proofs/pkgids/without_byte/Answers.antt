use Rattle.hack_pkgids.proofs.TextLemmas.{byte-from_strip}
use Rattle.hack_pkgids.proofs.pkgids.without_byte.Goals as goal

pub returns : goal.returns
returns c = byte-from_strip c.args.at c.args.rest.now c.strip_prefix.result c.strip_prefix.ensures.cases c.requires
