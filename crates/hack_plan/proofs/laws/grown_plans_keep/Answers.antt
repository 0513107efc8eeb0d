use Rattle.hack_plan.specs.GrowthLaws.{same_cleaning, same_command, same_entry, same_name}
use Rattle.hack_plan.proofs.laws.grown_plans_keep.Goals as goal

pub returns-clause-entry : goal.returns-clause-entry
returns-clause-entry c = same_entry

pub returns-clause-command : goal.returns-clause-command
returns-clause-command c = same_command

pub returns-clause-name : goal.returns-clause-name
returns-clause-name c = same_name

pub returns-clause-cleaning : goal.returns-clause-cleaning
returns-clause-cleaning c = same_cleaning
