-- The table of options: how each is written and parsed.
use Rattle.std.specs.Prelude.{ℕ, List, [], Bool, true, false, Option, None, codes, slice_get}
use denote.Enum.Bare.{sameb}
use Rattle.hack_options.specs.contracts.opt.Opt.{the_type}
use Rattle.hack_options.specs.declared.opt.Opt.{Opt}
use Rattle.hack_options.specs.declared.opt.Opt.TheVariants as opt
use Rattle.hack_options.specs.declared.table.Kind.{Kind}
use Rattle.hack_options.specs.declared.table.Kind.TheVariants.{Flag, Value, Names, OptionalNames, Help, Version, Refused}
use Rattle.hack_options.specs.declared.table.Row.{Row}

-- a row of the table: how an option is written and parsed, with the value that the help shows
pub record Entry : Type 0 where
  pub letter : Option ℕ
  pub name : List ℕ
  pub kind : Kind
  pub once : Bool
  pub value : List ℕ

-- what a row says about these
abbrev pub entry : Row → Entry
entry row = record { letter = row.letter; name = row.name.now; kind = row.kind; once = row.once; value = row.value.now }

-- an option without a letter that may be given once, with the value that the help shows after its
-- name
abbrev pub once : List ℕ → Kind → List ℕ → Entry
once name kind value = record { letter = None; name = name; kind = kind; once = true; value = value }

-- an option without a letter that may be given once and takes no value
abbrev pub flag : List ℕ → Entry
flag name = once name Flag []

-- an option without a letter that may be repeated, with the value that the help shows
abbrev pub many : List ℕ → Kind → List ℕ → Entry
many name kind value = record (once name kind value) { once = false }

-- the same option, with the one letter of the text as its letter
abbrev pub or_letter : List ℕ → Entry → Entry
or_letter text e = record e { letter = slice_get text 0 }

-- the row of each option
abbrev pub entry_of : Opt → Entry
entry_of opt.Package = or_letter (codes "p") (many (codes "package") Value (codes "<SPEC>..."))
entry_of opt.All = flag (codes "all")
entry_of opt.Workspace = flag (codes "workspace")
entry_of opt.Exclude = many (codes "exclude") Value (codes "<SPEC>...")
entry_of opt.ManifestPath = or_letter (codes "m") (once (codes "manifest-path") Value (codes "<PATH>"))
entry_of opt.Locked = flag (codes "locked")
entry_of opt.Features = or_letter (codes "F") (many (codes "features") Names (codes "<FEATURES>..."))
entry_of opt.EachFeature = flag (codes "each-feature")
entry_of opt.FeaturePowerset = flag (codes "feature-powerset")
entry_of opt.OptionalDeps = once (codes "optional-deps") OptionalNames (codes "[DEPS]...")
entry_of opt.Skip = many (codes "skip") Names (codes "<FEATURES>...")
entry_of opt.ExcludeFeatures = many (codes "exclude-features") Names (codes "<FEATURES>...")
entry_of opt.ExcludeNoDefaultFeatures = flag (codes "exclude-no-default-features")
entry_of opt.ExcludeAllFeatures = flag (codes "exclude-all-features")
entry_of opt.Depth = once (codes "depth") Value (codes "<NUM>")
entry_of opt.GroupFeatures = many (codes "group-features") Value (codes "<FEATURES>...")
entry_of opt.Target = many (codes "target") Value (codes "<TRIPLE>")
entry_of opt.MutuallyExclusiveFeatures = many (codes "mutually-exclusive-features") Value (codes "<FEATURES>...")
entry_of opt.AllowTogether = many (codes "allow-together") Value (codes "<PKG=FEATURES>...")
entry_of opt.AtLeastOneOf = many (codes "at-least-one-of") Value (codes "<FEATURES>...")
entry_of opt.IncludeFeatures = many (codes "include-features") Names (codes "<FEATURES>...")
entry_of opt.NoDevDeps = flag (codes "no-dev-deps")
entry_of opt.RemoveDevDeps = flag (codes "remove-dev-deps")
entry_of opt.NoPrivate = flag (codes "no-private")
entry_of opt.IgnorePrivate = flag (codes "ignore-private")
entry_of opt.IgnoreUnknownFeatures = flag (codes "ignore-unknown-features")
entry_of opt.RustVersion = flag (codes "rust-version")
entry_of opt.VersionRange = once (codes "version-range") Value (codes "[START]..[=END]")
entry_of opt.VersionStep = once (codes "version-step") Value (codes "<NUM>")
entry_of opt.CleanPerRun = flag (codes "clean-per-run")
entry_of opt.CleanPerVersion = flag (codes "clean-per-version")
entry_of opt.KeepGoing = flag (codes "keep-going")
entry_of opt.Partition = once (codes "partition") Value (codes "<M/N>")
entry_of opt.PartitionKind = once (codes "partition-kind") Value (codes "<KIND>")
entry_of opt.LogGroup = once (codes "log-group") Value (codes "<KIND>")
entry_of opt.WorkspaceBehavior = many (codes "workspace-behavior") Refused []
entry_of opt.PrintCommandList = flag (codes "print-command-list")
entry_of opt.NoManifestPath = flag (codes "no-manifest-path")
entry_of opt.Verbose = or_letter (codes "v") (many (codes "verbose") Flag [])
entry_of opt.Color = once (codes "color") Value (codes "<WHEN>")
entry_of opt.Help = or_letter (codes "h") (many (codes "help") Help [])
entry_of opt.Version = or_letter (codes "V") (many (codes "version") Version [])
entry_of opt.NoDefaultFeatures = many (codes "no-default-features") Flag []
entry_of opt.AllFeatures = many (codes "all-features") Flag []
entry_of opt.IncludeDepsFeatures = flag (codes "include-deps-features")
entry_of opt.Strength = once (codes "strength") Value (codes "<NUM>")
entry_of opt.Restore = flag (codes "restore")
entry_of opt.PackageRules = flag (codes "package-rules")
entry_of opt.Parallel = once (codes "parallel") Value (codes "<NUM>")
entry_of opt.FindRustVersion = flag (codes "find-rust-version")
entry_of opt.FindConflicts = flag (codes "find-conflicts")
entry_of opt.MostRuns = once (codes "most-runs") Value (codes "<NUM>")

-- the option that an alias means
abbrev pub meaning_of : Opt → Opt
meaning_of opt.All = opt.Workspace
meaning_of opt.Skip = opt.ExcludeFeatures
meaning_of o = o

-- `==` on options
abbrev pub is_same_option : Opt → Opt → Bool
is_same_option = sameb the_type
