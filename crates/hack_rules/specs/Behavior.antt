-- Who handles a workspace.
use Rattle.std.specs.Prelude.{Bool, true, false}
use Rattle.hack_rules.specs.declared.uses.behavior.WorkspaceBehavior.{WorkspaceBehavior}
use Rattle.hack_rules.specs.declared.uses.behavior.WorkspaceBehavior.TheVariants.{Cargo, Default}

-- Cargo handles it
abbrev pub is_cargo : WorkspaceBehavior → Bool
is_cargo Cargo = true
is_cargo Default = false
