-- Why the answer of `cargo locate-project` has no manifest's path.
use Rattle.std.specs.Prelude.{◌≡◌, ℕ, List, Some, None, string_bytes}
use Rattle.serde_json.specs.Data.{Members}
use Rattle.hack_base.specs.Names.{Name}
use Rattle.hack_metadata.specs.Fields.{object_in_text}
use Rattle.hack_load.specs.Located.{root_at}
use Rattle.hack_load.specs.declared.fault.ContextFault.{ContextFault}
use Rattle.hack_load.specs.declared.fault.ContextFault.TheVariants as faults

-- the text is a JSON object without a text at `root`
pub record LacksRoot (text : List ℕ) : Type 0 where
  pub members : Members
  pub object : object_in_text text ≡ Some members
  pub root : root_at members ≡ None

-- the answer is no JSON object, and the error shows the command; or it has no `root`; or `Memory`
abbrev pub IsRootRefusal : Name → List ℕ → ContextFault → Type 0
IsRootRefusal command text faults.Memory = Unit {0}
IsRootRefusal command text (faults.NotJson shown) = (string_bytes shown ≡ command) × (object_in_text text ≡ None)
IsRootRefusal command text faults.Root = LacksRoot text
IsRootRefusal command text _ = ⊥
