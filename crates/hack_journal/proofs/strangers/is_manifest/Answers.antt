use Rattle.std.proofs.Common.{codes}
use Rattle.std.proofs.lemmas.Str.Pattern.{ends_text}
use Rattle.hack_journal.proofs.strangers.is_manifest.Goals as goal

pub returns : goal.returns
returns c = ends_text c.ends_with.result (codes "/Cargo.toml") c.args.path.now c.ends_with.ensures.cases
