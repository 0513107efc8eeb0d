-- What is read of a manifest as contracts see it, and its errors.
use Rattle.std.specs.Prelude.{◌≡◌, ℕ, List, None, option_map, Vec, String, Result, Ok, Err, string_bytes}
use Rattle.std.specs.BTreeMap.{BTreeMap}
use Rattle.std.specs.declared.alloc.Global.{Global}
use Rattle.toml.specs.Parse.{parse_document}
use Rattle.hack_base.specs.Names.{optional_text}
use Rattle.hack_routes.specs.FeatureMap.{feature_map}
use Rattle.hack_manifest.specs.Manifest.{Facts, IsReadAs}
use Rattle.hack_base.specs.FieldReadings.{FieldReading}
use Rattle.hack_manifest.specs.declared.fault.ReadFault.{ReadFault}
use Rattle.hack_manifest.specs.declared.fault.ReadFault.TheVariants as parts
use Rattle.hack_manifest.specs.declared.package.ManifestPackage.{ManifestPackage}
use Rattle.hack_manifest.specs.declared.manifest.Manifest.{Manifest}
use Rattle.hack_manifest.specs.declared.manifest.ManifestFault.{ManifestFault}
use Rattle.hack_manifest.specs.declared.manifest.ManifestFault.TheVariants as faults

-- what the package and the features of a `Manifest` say
abbrev pub facts_of : ManifestPackage → BTreeMap (String Global) (Vec (String Global) Global) → Facts
facts_of p features = record {
  publish = p.publish;
  rust_version = option_map optional_text p.rust_version;
  features = feature_map features;
}

-- the error is that of the reading, unless memory ran out
abbrev pub FailsAsRead : {Y : Type 0} → ReadFault → FieldReading Y → Type 0
FailsAsRead parts.Memory read = Unit {0}
FailsAsRead (parts.Field name) read = read ≡ Err name.now

-- the result of a function, seen by `view`, is that of the reading, unless memory ran out
abbrev pub ReturnsReading : {X Y : Type 0} → (X → Y) → Result X ReadFault → FieldReading Y → Type 0
ReturnsReading view (Ok x) read = read ≡ Ok (view x)
ReturnsReading view (Err e) read = FailsAsRead e read

-- a manifest keeps its text, and holds what the text is read as
pub record IsManifest (text : List ℕ) (minor : ℕ) (m : Manifest) : Type 0 where
  pub kept : string_bytes m.text ≡ text
  pub says : IsReadAs text minor (Ok (facts_of m.package m.features))

-- why a manifest with this path and text is refused: it is no TOML, or the field is the first that
-- can't be read
abbrev pub IsRefusal : List ℕ → List ℕ → ℕ → ManifestFault → Type 0
IsRefusal path text minor (faults.Toml p) = (string_bytes p ≡ path) × (parse_document text ≡ None)
IsRefusal path text minor (faults.Field name p) = (string_bytes p ≡ path) × IsReadAs text minor (Err name.now)
IsRefusal path text minor faults.Memory = Unit {0}
