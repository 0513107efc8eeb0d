-- What only private functions of the crate promise each other.
use Rattle.std.specs.Prelude.{◌≡◌, List, ◌++◌, ◌⊎◌, ℕ, Result, Ok, Err, string_bytes}
use Rattle.hack_files.specs.declared.fs.FsFault.{FsFault}
use Rattle.hack_files.specs.declared.fs.FsFault.TheVariants as fs
use Rattle.hack_process.specs.declared.fault.ProcessFault.{ProcessFault}
use Rattle.hack_process.specs.declared.fault.ProcessFault.TheVariants as process
use Rattle.hack_manifest.specs.declared.manifest.ManifestFault.{ManifestFault}
use Rattle.hack_manifest.specs.declared.manifest.ManifestFault.TheVariants as manifest
use Rattle.hack_load.specs.declared.fault.ContextFault.{ContextFault}
use Rattle.hack_load.specs.declared.fault.ContextFault.TheVariants as faults
use Rattle.hack_metadata.specs.declared.metadata.fault.MetadataFault.{MetadataFault}
use Rattle.hack_metadata.specs.declared.metadata.fault.MetadataFault.TheVariants as metadata
use Rattle.hack_features.specs.declared.feature.Feature.{Feature}
use Rattle.hack_features.specs.Feature.{IsPath}
use Rattle.std.specs.List.{AllZip}
use Rattle.hack_files.specs.Files.{Contents, KeepsAll}
use Rattle.hack_base.specs.Counters.{GrowsBy}
use Rattle.hack_metadata.specs.FilesAfterAsking.{Whole}
use Rattle.hack_base.specs.Names.{Name}

-- an error of a file as an error of the call
abbrev pub IsCallFaultOfFile : FsFault → ContextFault → Type 0
IsCallFaultOfFile fs.Memory e = e ≡ faults.Memory
IsCallFaultOfFile f e = e ≡ faults.Files f

-- an error of a manifest as an error of the call
abbrev pub IsOfManifest : ManifestFault → ContextFault → Type 0
IsOfManifest manifest.Memory e = e ≡ faults.Memory
IsOfManifest f e = e ≡ faults.Manifest f

-- an error of the command as an error of the call
abbrev pub IsOfProcess : ProcessFault → ContextFault → Type 0
IsOfProcess process.Memory e = e ≡ faults.Memory
IsOfProcess f e = e ≡ faults.Process f

-- an error of the candidates as an error of the call
abbrev pub IsOfNode : MetadataFault → ContextFault → Type 0
IsOfNode metadata.Memory e = e ≡ faults.Memory
IsOfNode f e = e ≡ faults.Metadata f

-- features were added after others, one for each path, in order
abbrev pub AddsPaths : List (Name × Name) → List Feature → List Feature → Type 0
AddsPaths paths old new =
    (before : List (Name × Name)) → AllZip (λ p f. IsPath p.0 p.1 f) before old
    → AllZip (λ p f. IsPath p.0 p.1 f) (before ++ paths) new

-- at most one call failed, and each path holds what it held
abbrev pub MayFail : Type 0 → Contents → Contents → ℕ → ℕ → Type 0
MayFail tells old new before now = Whole tells old new before now ⊎ (GrowsBy 1 before now × (tells → KeepsAll old new))

-- files were only read: without an error no call failed, and with one at most one
abbrev pub ReadsOnly : {X E : Type 0} → Type 0 → Contents → Contents → ℕ → ℕ → Result X E → Type 0
ReadsOnly tells old new before now (Ok x) = Whole tells old new before now
ReadsOnly tells old new before now (Err e) = MayFail tells old new before now

-- the error shows the command, unless memory was refused
abbrev pub IsNotJson : Name → ContextFault → Type 0
IsNotJson command faults.Memory = Unit {0}
IsNotJson command (faults.NotJson shown) = string_bytes shown ≡ command
IsNotJson command _ = ⊥
