use Rattle.std.proofs.lemmas.Str.Pattern.{starts_text}
use Rattle.hack_journal.specs.Rows.{is_of_journal}
use Rattle.hack_journal.proofs.place.is_of_journal.Goals as goal

pub returns : goal.returns
unfolding is_of_journal
returns c = starts_text _ c.args.journal.now c.args.path.now c.starts_with.ensures.cases
