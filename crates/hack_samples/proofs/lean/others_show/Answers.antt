use Rattle.hack_samples.specs.Sets.{rows_of, tables_of}
use Rattle.hack_samples.proofs.LeanLemmas.{match_turned, some-right, none-both}
use Rattle.hack_samples.proofs.lean.others_show.Goals as goal

pub returns-else-some_shows : goal.returns-else-some_shows
returns-else-some_shows c =
    match_turned c.some_shows-else-some_shows.result _ _ _ _
    (some-right (tables_of c.args.providers.now) c.args.pattern.now (rows_of c.args.among.now.before.now) (rows_of c.args.among.now.behind.now))
    (none-both (tables_of c.args.providers.now) c.args.pattern.now (rows_of c.args.among.now.before.now) (rows_of c.args.among.now.behind.now) c.if-some_shows.ensures)
    c.some_shows-else-some_shows.ensures
