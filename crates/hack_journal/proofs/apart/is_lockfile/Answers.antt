use Rattle.std.proofs.Common.{sym, codes}
use Rattle.std.proofs.lemmas.Str.Pattern.{ends_text}
use Rattle.hack_journal.proofs.apart.is_lockfile.Goals as goal

pub returns-else-eq : goal.returns-else-eq
returns-else-eq c = rw (sym c.eq.ensures, c.if-eq.false) (ends_text _ (codes "/Cargo.lock") c.args.path.now c.ends_with.ensures.cases)
