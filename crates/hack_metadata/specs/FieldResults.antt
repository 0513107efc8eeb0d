-- What a function that reads data returns.
use Rattle.std.specs.Prelude.{◌≡◌, Result, Ok, Err, false}
use Rattle.std.specs.Str.{bytes_eq}
use Rattle.serde_json.specs.Data.{Members}
use Rattle.serde_json.specs.Find.{get_member}
use Rattle.hack_base.specs.FieldReadings.{FieldReading}
use Rattle.hack_base.specs.Names.{Name}
use Rattle.hack_metadata.specs.declared.metadata.fault.MetadataFault.{MetadataFault}
use Rattle.hack_metadata.specs.declared.metadata.fault.MetadataFault.TheVariants as faults

-- the error names the field that reading stops at, unless memory was refused
abbrev pub FailsAtField : {Y : Type 0} → MetadataFault → FieldReading Y → Type 0
FailsAtField faults.Memory read = Unit {0}
FailsAtField (faults.Field name) read = read ≡ Err name.now
FailsAtField faults.Json read = ⊥

-- the result, as view shows it, is what was to be read; or the error names the field that is wrong
abbrev pub ReturnsField : {X Y : Type 0} → (X → Y) → Result X MetadataFault → FieldReading Y → Type 0
ReturnsField view (Ok x) read = read ≡ Ok (view x)
ReturnsField view (Err e) read = FailsAtField e read

-- every other field is as it was
pub record KeepsOtherFields (key : Name) (old new : Members) : Type 0 where
  pub others : (q : Name) → bytes_eq key q ≡ false → get_member q new ≡ get_member q old
