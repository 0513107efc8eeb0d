use Rattle.std.proofs.Common.{None}
use Rattle.std.proofs.lemmas.Bool.Decides.{Decides-eqb}
use Rattle.std.proofs.lemmas.Slice.Eq.{strip_prefix_is}
use Rattle.hack_journal.proofs.journal.behind.Goals as goal

pub returns-in-None-clause-only : goal.returns-in-None-clause-only
returns-in-None-clause-only c = λ rest h. strip_prefix_is Decides-eqb c.args.text.now c.args.word.now None c.in-None.ensures.cases rest h
