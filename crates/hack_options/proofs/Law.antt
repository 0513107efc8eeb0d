-- An option is found by its own name and letter, and by no other.
use Rattle.std.specs.Prelude.{ℕ, List, [], ◌∷◌, Bool, true, false, Option, Some, None, IfSome, ◌≡◌, ◌==◌, if◌then◌else◌}
use Rattle.std.specs.List.{find}
use Rattle.std.specs.Option.{option_map_or}
use Rattle.std.specs.Str.{bytes_eq}
use Rattle.std.proofs.Common.{refl, ap}
use Rattle.std.proofs.lemmas.Bool.Decides.{Decides-eqb}
use Rattle.std.proofs.lemmas.Slice.Eq.{bytes_eq-Decides}
use Rattle.hack_options.specs.declared.opt.Opt.{Opt}
use Rattle.hack_options.specs.declared.opt.Opt.TheVariants as opt
use Rattle.hack_options.specs.Table.{entry_of}
use Rattle.hack_options.specs.Find.{long_option, short_option}

pub long_option-name : (o : Opt) → long_option (entry_of o).name ≡ Some o
long_option-name opt.Package = refl
long_option-name opt.All = refl
long_option-name opt.Workspace = refl
long_option-name opt.Exclude = refl
long_option-name opt.ManifestPath = refl
long_option-name opt.Locked = refl
long_option-name opt.Features = refl
long_option-name opt.EachFeature = refl
long_option-name opt.FeaturePowerset = refl
long_option-name opt.OptionalDeps = refl
long_option-name opt.Skip = refl
long_option-name opt.ExcludeFeatures = refl
long_option-name opt.ExcludeNoDefaultFeatures = refl
long_option-name opt.ExcludeAllFeatures = refl
long_option-name opt.Depth = refl
long_option-name opt.GroupFeatures = refl
long_option-name opt.Target = refl
long_option-name opt.MutuallyExclusiveFeatures = refl
long_option-name opt.AllowTogether = refl
long_option-name opt.AtLeastOneOf = refl
long_option-name opt.IncludeFeatures = refl
long_option-name opt.NoDevDeps = refl
long_option-name opt.RemoveDevDeps = refl
long_option-name opt.NoPrivate = refl
long_option-name opt.IgnorePrivate = refl
long_option-name opt.IgnoreUnknownFeatures = refl
long_option-name opt.RustVersion = refl
long_option-name opt.VersionRange = refl
long_option-name opt.VersionStep = refl
long_option-name opt.CleanPerRun = refl
long_option-name opt.CleanPerVersion = refl
long_option-name opt.KeepGoing = refl
long_option-name opt.Partition = refl
long_option-name opt.PartitionKind = refl
long_option-name opt.LogGroup = refl
long_option-name opt.WorkspaceBehavior = refl
long_option-name opt.PrintCommandList = refl
long_option-name opt.NoManifestPath = refl
long_option-name opt.Verbose = refl
long_option-name opt.Color = refl
long_option-name opt.Help = refl
long_option-name opt.Version = refl
long_option-name opt.NoDefaultFeatures = refl
long_option-name opt.AllFeatures = refl
long_option-name opt.IncludeDepsFeatures = refl
long_option-name opt.Strength = refl
long_option-name opt.Restore = refl
long_option-name opt.PackageRules = refl
long_option-name opt.Parallel = refl
long_option-name opt.FindRustVersion = refl
long_option-name opt.FindConflicts = refl
long_option-name opt.MostRuns = refl

pub short_option-letter : (o : Opt) → IfSome (entry_of o).letter (λ c. short_option c ≡ Some o)
short_option-letter opt.Package = refl
short_option-letter opt.All = tt
short_option-letter opt.Workspace = tt
short_option-letter opt.Exclude = tt
short_option-letter opt.ManifestPath = refl
short_option-letter opt.Locked = tt
short_option-letter opt.Features = refl
short_option-letter opt.EachFeature = tt
short_option-letter opt.FeaturePowerset = tt
short_option-letter opt.OptionalDeps = tt
short_option-letter opt.Skip = tt
short_option-letter opt.ExcludeFeatures = tt
short_option-letter opt.ExcludeNoDefaultFeatures = tt
short_option-letter opt.ExcludeAllFeatures = tt
short_option-letter opt.Depth = tt
short_option-letter opt.GroupFeatures = tt
short_option-letter opt.Target = tt
short_option-letter opt.MutuallyExclusiveFeatures = tt
short_option-letter opt.AllowTogether = tt
short_option-letter opt.AtLeastOneOf = tt
short_option-letter opt.IncludeFeatures = tt
short_option-letter opt.NoDevDeps = tt
short_option-letter opt.RemoveDevDeps = tt
short_option-letter opt.NoPrivate = tt
short_option-letter opt.IgnorePrivate = tt
short_option-letter opt.IgnoreUnknownFeatures = tt
short_option-letter opt.RustVersion = tt
short_option-letter opt.VersionRange = tt
short_option-letter opt.VersionStep = tt
short_option-letter opt.CleanPerRun = tt
short_option-letter opt.CleanPerVersion = tt
short_option-letter opt.KeepGoing = tt
short_option-letter opt.Partition = tt
short_option-letter opt.PartitionKind = tt
short_option-letter opt.LogGroup = tt
short_option-letter opt.WorkspaceBehavior = tt
short_option-letter opt.PrintCommandList = tt
short_option-letter opt.NoManifestPath = tt
short_option-letter opt.Verbose = refl
short_option-letter opt.Color = tt
short_option-letter opt.Help = refl
short_option-letter opt.Version = refl
short_option-letter opt.NoDefaultFeatures = tt
short_option-letter opt.AllFeatures = tt
short_option-letter opt.IncludeDepsFeatures = tt
short_option-letter opt.Strength = tt
short_option-letter opt.Restore = tt
short_option-letter opt.PackageRules = tt
short_option-letter opt.Parallel = tt
short_option-letter opt.FindRustVersion = tt
short_option-letter opt.FindConflicts = tt
short_option-letter opt.MostRuns = tt

-- ---- an option that is found has the name, or the letter

found : (P : Opt → Type 0) (o : Opt) (behind : Option Opt) (b : Bool) → (b ≡ true → P o) → IfSome behind P → IfSome (if b then Some o else behind) P
found P o behind true is rest = is refl
found P o behind false is rest = rest

pub named-name : (name : List ℕ) (os : List Opt) → IfSome (find (λ o. bytes_eq (entry_of o).name name) os) (λ o. (entry_of o).name ≡ name)
named-name name [] = tt
named-name name (o ∷ os) = found (λ o. (entry_of o).name ≡ name) o (find (λ o. bytes_eq (entry_of o).name name) os) (bytes_eq (entry_of o).name name) (bytes_eq-Decides (entry_of o).name name).0 (named-name name os)

-- whether the letter is there and is this one
abbrev is_letter : ℕ → Option ℕ → Bool
is_letter c letter = option_map_or (λ l. l == c) letter false

is_letter-Some : (c : ℕ) (letter : Option ℕ) → is_letter c letter ≡ true → letter ≡ Some c
is_letter-Some c (Some l) is = ap Some ((Decides-eqb l c).0 is)
is_letter-Some c None is = absurd (let z : false ≡ true = is in cc)

pub lettered-letter : (c : ℕ) (os : List Opt) → IfSome (find (λ o. is_letter c (entry_of o).letter) os) (λ o. (entry_of o).letter ≡ Some c)
lettered-letter c [] = tt
lettered-letter c (o ∷ os) = found (λ o. (entry_of o).letter ≡ Some c) o (find (λ o. is_letter c (entry_of o).letter) os) (is_letter c (entry_of o).letter) (is_letter-Some c (entry_of o).letter) (lettered-letter c os)
