use Rattle.std.proofs.lemmas.Str.{IsCharBoundary-start}
use Rattle.hack_lexopt.proofs.cuts.first_cut.Goals as goal

pub returns-clause-boundary : goal.returns-clause-boundary
returns-clause-boundary c = rw c.whole_cut-2.ensures (IsCharBoundary-start c.args.word.now c.utf8.word)
