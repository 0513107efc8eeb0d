use Rattle.std.proofs.Common.{codes}
use Rattle.std.proofs.lemmas.Str.Pattern.{starts_text}
use Rattle.hack_words.proofs.cli.start.has_range.Goals as goal

pub returns : goal.returns
returns c = starts_text c.starts_with.result (codes "--version-range=") c.args.word.now c.starts_with.ensures.cases
