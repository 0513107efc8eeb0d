-- What only private functions of the crate promise each other.
use Rattle.std.specs.Prelude.{◌≡◌, ◌⊎◌, ◌++◌, ◌∷◌, [], ℕ, List, Some, Result, Ok, Err, true, Option, nat_lt, map, MatchOption, option_map, string_bytes}
use Rattle.hack_base.specs.FieldReadings.{FieldReading}
use Rattle.hack_base.specs.Names.{Name}
use Rattle.hack_files.specs.Files.{Change, Contents, KeepsOthers, puts}
use Rattle.hack_base.specs.Counters.{GrowsBy}
use Rattle.hack_files.specs.Restore.{Kept}
use Rattle.hack_files.specs.declared.fs.FsFault.{FsFault}
use Rattle.hack_files.specs.declared.fs.FsFault.TheVariants as fs
use Rattle.hack_metadata.specs.FileFaults.{IsUnread, IsUnwritten}
use Rattle.hack_metadata.specs.declared.ask.fault.AskFault.{AskFault}
use Rattle.hack_metadata.specs.declared.ask.fault.AskFault.TheVariants as fault
use Rattle.hack_metadata.specs.FilesAfterAsking.{Spoilt}
use Rattle.std.specs.Borrow.{Bor}
use Rattle.hack_metadata.specs.RecordViews.{dependency_view, place_at}
use Rattle.hack_metadata.specs.declared.metadata.package.Dependency.{Dependency}
use Rattle.hack_metadata.specs.Optional.{optional_in}
use Rattle.hack_metadata.specs.declared.metadata.rules.RulesFault.{RulesFault}
use Rattle.hack_metadata.specs.declared.metadata.rules.RulesFault.TheVariants as rule
use Rattle.std.specs.BTreeMap.{BTreeMap, get_by_text}
use Rattle.std.specs.declared.string.String.{String}
use Rattle.std.specs.declared.alloc.Global.{Global}
use Rattle.hack_metadata.specs.declared.metadata.resolve.PackageId.{PackageId}

-- the error names the key that a table is wrong at, unless memory was refused
abbrev pub FailsAtKey : {Y : Type 0} → RulesFault → FieldReading Y → Type 0
FailsAtKey rule.Memory read = Unit {0}
FailsAtKey (rule.Key key) read = read ≡ Err (string_bytes key)

-- the result, as view shows it, is what was to be read; or the error names the key that is wrong
abbrev pub ReturnsKey : {X Y : Type 0} → (X → Y) → Result X RulesFault → FieldReading Y → Type 0
ReturnsKey view (Ok x) read = read ≡ Ok (view x)
ReturnsKey view (Err e) read = FailsAtKey e read

-- memory was refused, or the files failed by an error of which P holds
abbrev pub IsFileFault : (FsFault → Type 0) → AskFault → Type 0
IsFileFault P fault.Memory = Unit {0}
IsFileFault P (fault.Files f) = P f
IsFileFault P _ = ⊥

-- the error is not one of the files
abbrev pub IsNoFileFault : AskFault → Type 0
IsNoFileFault (fault.Files f) = ⊥
IsNoFileFault _ = Unit {0}

-- `still`, and the path can't be read; or `done`, and it can't be written, or memory was refused
abbrev pub FailsOver : Name → Type 0 → Type 0 → AskFault → Type 0
FailsOver path still done fault.Memory = done
FailsOver path still done (fault.Files f) = (still × IsUnread path f) ⊎ (done × IsUnwritten path f)
FailsOver path still done _ = ⊥

-- one more path is kept, with what it holds
abbrev pub KeepsOneMore : Name → Type 0 → Contents → List Kept → List Kept → Type 0
KeepsOneMore path tells held old new = (bytes : List ℕ) × (new ≡ old ++ record { path = path; bytes = bytes } ∷ []) × (tells → held path ≡ Some bytes)

-- a file is written back, or else its path may hold something else
abbrev pub RestoresFile : {X : Type 0} → Kept → Type 0 → Contents → Contents → ℕ → ℕ → Result X AskFault → Type 0
RestoresFile file tells old new before now (Ok x) = GrowsBy 0 before now × (tells → KeepsOthers file.path old new × (new file.path ≡ Some file.bytes))
RestoresFile file tells old new before now (Err e) = IsFileFault (IsUnwritten file.path) e × Spoilt file.path tells old new before now

-- an error of a file as an error of the question
abbrev pub IsAskFaultOfFile : FsFault → AskFault → Type 0
IsAskFaultOfFile fs.Memory e = e ≡ fault.Memory
IsAskFaultOfFile f e = e ≡ fault.Files f

-- a write of the path, of which P holds, has what it held, where the files say what they hold
abbrev pub PutsHeld : Type 0 → Contents → Name → (Change → Type 0) → Type 0
PutsHeld tells held path P = (bytes : List ℕ) × (tells → held path ≡ Some bytes) × P (puts path bytes)

-- each place that an id may have is among the first n
abbrev pub Bounds : (Name → Option ℕ) → ℕ → Type 0
Bounds place n = (id : Name) (k : ℕ) → place id ≡ Some k → nat_lt k n ≡ true

-- the first of the features, and the dependencies after it; or there is none
abbrev pub TakesOptional : List Dependency → Option (Bor Name) → List Dependency → Type 0
TakesOptional ds first left = MatchOption first ((optional_in (map dependency_view ds) ≡ []) × (left ≡ [])) (λ name. optional_in (map dependency_view ds) ≡ name.now ∷ optional_in (map dependency_view left))

-- the place of the package that a text means, by a map of ids
abbrev pub place_in : BTreeMap (String Global) PackageId → Name → Option ℕ
place_in ids id = option_map place_at (get_by_text ids id)
