use Rattle.hack_samples.proofs.greedy.+fresh.Given as goal

abbrev pub decreases-fresh : goal.decreases-fresh
decreases-fresh l = l.choose
