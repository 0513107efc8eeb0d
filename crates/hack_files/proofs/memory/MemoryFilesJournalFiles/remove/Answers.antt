use Rattle.hack_files.specs.Memory.{no_contents}
use Rattle.hack_files.proofs.FilesLemmas.{made, makes_here, makes_others}
use Rattle.hack_files.proofs.memory.MemoryFilesJournalFiles.remove.Goals as goal

pub returns-in-Ok-clause-traced : goal.returns-in-Ok-clause-traced
returns-in-Ok-clause-traced c = λ _. made _ _ _ no_contents c.in-Ok.ensures.ok

pub returns-in-Ok-clause-removed : goal.returns-in-Ok-clause-removed
returns-in-Ok-clause-removed c = λ t. makes_here _ _ _ _ _ (returns-in-Ok-clause-traced c t)

pub returns-in-Ok-clause-others : goal.returns-in-Ok-clause-others
returns-in-Ok-clause-others c = λ t. makes_others _ _ _ _ _ (returns-in-Ok-clause-traced c t)
