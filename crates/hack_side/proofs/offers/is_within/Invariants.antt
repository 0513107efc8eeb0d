use Rattle.hack_side.proofs.offers.is_within.Given as goal

abbrev pub invariant-loop-version : goal.invariant-loop-version
invariant-loop-version l = Unit {0}
