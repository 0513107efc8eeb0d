use Rattle.hack_samples.proofs.guide.+triples.Given as goal

abbrev pub decreases-triples : goal.decreases-triples
decreases-triples l = l.candidates
