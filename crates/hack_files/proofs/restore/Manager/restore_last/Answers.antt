use Rattle.hack_files.specs.TraceLaws.{makes_none}
use Rattle.hack_files.proofs.restore.Manager.restore_last.Goals as goal

pub returns-in_default-clause-untraced : goal.returns-in_default-clause-untraced
returns-in_default-clause-untraced g c = λ none whole. makes_none _ _
