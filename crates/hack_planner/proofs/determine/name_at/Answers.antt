use Rattle.std.proofs.Common.{◌∙◌, Some, ap, sym, option_map}
use Rattle.hack_metadata.specs.Records.{PackageRecord}
use Rattle.hack_planner.proofs.determine.name_at.Goals as goal

pub returns : goal.returns
returns c = ap (option_map (λ (p : PackageRecord). p.name)) c.packages.ensures ∙ ap Some (sym c.as_str.ensures.value)
