-- The context that is made of answers, and why none can be made.
use Rattle.std.specs.Prelude.{◌≡◌, ◌≢◌, ◌⊎◌, ◌<◌, ◌∷◌, [], ℕ, Bool, true, List, Some, None, Result, Ok, Err, Contains, string_bytes}
use Rattle.std.specs.Result.{result_unwrap_or}
use Rattle.hack_base.specs.Names.{Name}
use Rattle.hack_routes.specs.FeatureMap.{feature_map}
use Rattle.hack_base.specs.Notes.{Note}
use Rattle.hack_base.specs.declared.notice.NoticeKind.TheVariants.{Warn}
use Rattle.hack_metadata.specs.Fields.{object_in_text}
use Rattle.hack_metadata.specs.Records.{MetadataRecord}
use Rattle.hack_metadata.specs.MetadataView.{metadata_view}
use Rattle.hack_metadata.specs.declared.metadata.fault.MetadataFault.{MetadataFault}
use Rattle.hack_metadata.specs.declared.metadata.fault.MetadataFault.TheVariants as metadata
use Rattle.hack_manifest.specs.declared.manifest.Manifest.{Manifest}
use Rattle.hack_words.specs.declared.cli.args.Args.{Args}
use Rattle.hack_load.specs.Contexts.{ContextRecord}
use Rattle.hack_load.specs.Features.{AreCandidates, IsNodeRefusal}
use Rattle.hack_load.specs.Located.{root_in, current_of}
use Rattle.hack_load.specs.RootFaults.{LacksRoot}
use Rattle.hack_load.specs.declared.answers.Answers.{Answers}
use Rattle.hack_load.specs.declared.fault.ContextFault.{ContextFault}
use Rattle.hack_load.specs.declared.fault.ContextFault.TheVariants as faults
use Rattle.hack_load.specs.declared.features.Features.{Features}
use Rattle.hack_load.specs.declared.loaded.Loaded.{Loaded}

-- the candidates of each member, by its manifest
abbrev pub AreFeatures : MetadataRecord → Bool → List ℕ → List Manifest → List Features → Type 0
AreFeatures m asked [] [] [] = Unit {0}
AreFeatures m asked (id ∷ ids) (x ∷ xs) (f ∷ fs) = AreCandidates m (feature_map x.features) id asked f × AreFeatures m asked ids xs fs
AreFeatures m asked ids xs fs = ⊥

-- the context has what was loaded for these arguments, and cargo's own minor version; the current
-- package is the first member at the manifest that cargo reported
pub record IsContextOf (given : Args) (minor : ℕ) (l : Loaded) (cx : ContextRecord) : Type 0 where
  pub args : cx.args ≡ given
  pub metadata : cx.metadata ≡ metadata_view l.metadata
  pub manifests : cx.manifests ≡ l.manifests.items
  pub features : AreFeatures (metadata_view l.metadata) given.include_deps_features (metadata_view l.metadata).workspace_members l.manifests.items cx.features
  pub cargo : cx.cargo ≡ string_bytes l.cargo
  pub cargo_minor : cx.cargo_minor ≡ minor
  pub current_dir : cx.current_dir ≡ string_bytes l.current_dir
  pub root : Name
  pub told : root_in (string_bytes l.located.text) ≡ Some root
  pub current_package : cx.current_package ≡ current_of (metadata_view l.metadata) root

-- nothing ended the questions, and the context has what they loaded, and 0 for an unknown version
abbrev pub IsContextFrom : Args → Answers → ContextRecord → Type 0
IsContextFrom args a cx =
    (l : Loaded) × (a.loaded ≡ Ok l) × IsContextOf args (result_unwrap_or a.cargo_version 0) l cx

-- the node of some member is asked for and missing, and the error names that
abbrev pub IsNodeFault : MetadataRecord → Bool → MetadataFault → Type 0
IsNodeFault m asked e = (e ≢ metadata.Memory) × ((id : ℕ) × Contains m.workspace_members id × IsNodeRefusal m id asked e)

-- cargo doesn't report which dependencies are normal ones, and this is asked
abbrev pub IsTooOld : Bool → ℕ → Type 0
IsTooOld asked minor = (asked ≡ true) × (minor < 41)

-- why no context can be made of what was loaded
abbrev pub IsLoadCause : Args → Loaded → ContextFault → Type 0
IsLoadCause args l faults.OldCargo = IsTooOld args.include_deps_features l.metadata.cargo_version
IsLoadCause args l (faults.Metadata e) = IsNodeFault (metadata_view l.metadata) args.include_deps_features e
IsLoadCause args l (faults.NotJson shown) = (string_bytes shown ≡ string_bytes l.located.command) × (object_in_text (string_bytes l.located.text) ≡ None)
IsLoadCause args l faults.Root = LacksRoot (string_bytes l.located.text)
IsLoadCause args l _ = ⊥

-- why no context is made of answers: an error ended the questions, or what was loaded makes none
abbrev pub IsContextCause : Args → Answers → ContextFault → Type 0
IsContextCause args a e = (a.loaded ≡ Err e) ⊎ ((l : Loaded) × (a.loaded ≡ Ok l) × IsLoadCause args l e)

-- the warning that cargo's version can't be determined, where it can't
abbrev pub warnings_of : Result ℕ Name → List Note
warnings_of (Ok minor) = []
warnings_of (Err warning) = record { kind = Warn; text = warning } ∷ []
