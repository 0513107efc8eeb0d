use Rattle.std.proofs.Common.{ap}
use Rattle.std.specs.Option.{option_map}
use Rattle.hack_journal.specs.Journal.{edits_of}
use Rattle.hack_journal.proofs.CutLemmas.{own_by}
use Rattle.hack_journal.proofs.cuts.is_own.Goals as goal

pub returns-in-Some : goal.returns-in-Some
returns-in-Some c = own_by (edits_of c.args.entries.now) c.args.path.now c.in-Some.now.now _ c.tells.result c.is_of.result (ap (option_map (λ bytes. bytes.now)) c.in-Some.is) c.tells.ensures.1 c.if-tells.false c.is_of.ensures
