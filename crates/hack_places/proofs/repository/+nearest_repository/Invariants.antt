use Rattle.hack_places.proofs.repository.+nearest_repository.Given as goal

abbrev pub decreases-nearest_repository : goal.decreases-nearest_repository
decreases-nearest_repository g l = l.steps
