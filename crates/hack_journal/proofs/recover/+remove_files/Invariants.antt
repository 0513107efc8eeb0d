use Rattle.hack_journal.proofs.recover.+remove_files.Given as goal

abbrev pub decreases-remove_files : goal.decreases-remove_files
decreases-remove_files g l = l.count
