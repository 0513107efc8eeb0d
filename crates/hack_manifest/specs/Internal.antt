-- What only private functions of the crate promise each other.
use Rattle.std.specs.Prelude.{◌≡◌, ◌==◌, ◌&&◌, ◌<◌, ℕ, Bool, List, length, Option, Some, option_map, Vec, String, Result, Ok, Err, string_bytes, [], ◌∷◌}
use Rattle.toml_parser.specs.Lexical.{Read, skip_ws, skip_blank}
use Rattle.std.specs.Option.{option_map_or}
use Rattle.toml.specs.Data.{Data, Items, Members}
use Rattle.toml.specs.Parse.{items, ends_line}
use Rattle.std.specs.Ordering.{nat_cmp}
use Rattle.std.specs.Cmp.Lexicographic.{slice_cmp}
use Rattle.std.specs.declared.cmp.Ordering.{Ordering}
use Rattle.hack_base.specs.Names.{Name}
use Rattle.std.specs.BTreeMap.{BTreeMap}
use Rattle.std.specs.declared.alloc.Global.{Global}
use Rattle.hack_manifest.specs.Manifest.{IsReadAs}
use Rattle.hack_manifest.specs.declared.fault.ReadFault.{ReadFault}
use Rattle.hack_manifest.specs.declared.fault.ReadFault.TheVariants as parts
use Rattle.hack_manifest.specs.declared.package.ManifestPackage.{ManifestPackage}
use Rattle.hack_manifest.specs.declared.manifest.ManifestFault.{ManifestFault}
use Rattle.hack_manifest.specs.declared.manifest.ManifestFault.TheVariants as faults
use Rattle.hack_manifest.specs.ManifestResults.{facts_of}
use Rattle.hack_manifest.specs.declared.places.ScanState.{ScanState}
use Rattle.hack_manifest.specs.LineRuns.{has_some, chain}
use Rattle.hack_manifest.specs.Places.{step}

-- a document with at least one key
abbrev pub has_keys : Option Members → Bool
has_keys o = has_some (option_map_or chain o [])

-- the text after that which was read
abbrev pub rest_of_read : {A : Type 0} → Read A → Option (List ℕ)
rest_of_read read = option_map (λ p. p.1) read

-- the rest follows the items and the closing bracket, whatever was found before them
abbrev pub IsBehindItems : (List ℕ → Read Data) → List ℕ → List ℕ → Type 0
IsBehindItems val text rest =
    (n : ℕ) → length text < n → (found : Items) → rest_of_read (items val n found text) ≡ Some rest

-- the line ends, and only blank lines and comments follow
abbrev pub is_over : List ℕ → Bool
is_over text = ends_line (skip_ws text) && (length (skip_blank text) == 0)

-- the order of names
abbrev pub by_bytes : Name → Name → Ordering
by_bytes = slice_cmp nat_cmp

-- the result of a function is what the text of a manifest is read as, unless memory ran out
abbrev pub ReturnsFacts : List ℕ → ℕ → Result (ManifestPackage × BTreeMap (String Global) (Vec (String Global) Global)) ReadFault → Type 0
ReturnsFacts text minor (Ok r) = IsReadAs text minor (Ok (facts_of r.0 r.1))
ReturnsFacts text minor (Err (parts.Field name)) = IsReadAs text minor (Err name.now)
ReturnsFacts text minor (Err parts.Memory) = Unit {0}

-- the error of a text that is no TOML, or out of memory
abbrev pub IsTomlFault : List ℕ → ManifestFault → Type 0
IsTomlFault path (faults.Toml p) = string_bytes p ≡ path
IsTomlFault path (faults.Field name p) = ⊥
IsTomlFault path faults.Memory = Unit {0}

-- the error of this field, or out of memory
abbrev pub IsFieldFault : List ℕ → Name → ManifestFault → Type 0
IsFieldFault path field (faults.Toml p) = ⊥
IsFieldFault path field (faults.Field name p) = (name.now ≡ field) × (string_bytes p ≡ path)
IsFieldFault path field faults.Memory = Unit {0}

-- the state after these bytes
abbrev pub behind : ScanState → List ℕ → ScanState
behind place [] = place
behind place (c ∷ cs) = behind (step place c) cs
