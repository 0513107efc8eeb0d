-- The commands that ask cargo for the metadata of a workspace, argument by argument.
use Rattle.std.specs.Prelude.{ℕ, Bool, true, false, List, [], ◌∷◌, ◌++◌, Option, Some, codes, map, option_map, string_bytes}
use Rattle.std.specs.List.{flat_map}
use Rattle.hack_base.specs.Names.{Name, optional_text}
use Rattle.hack_process.specs.CommandTexts.{Command}
use Rattle.hack_process.specs.Commands.{manifest_words, plain_command}
use Rattle.hack_words.specs.declared.cli.args.Args.{Args}
use Rattle.hack_words.specs.declared.cli.env.Env.{Env}

-- `--filter-platform` and its value, for each platform
abbrev pub platform_words : List Name → List Name
platform_words ps = flat_map (λ p. codes "--filter-platform" ∷ p ∷ []) ps

-- the arguments that say which dependencies are wanted: none, or those for targets, or else for the
-- host; none where it isn't known
abbrev pub scope_words : Bool → List Name → Option Name → Option (List Name)
scope_words false targets host = Some (codes "--no-deps" ∷ [])
scope_words true [] host = option_map (λ h. platform_words (h ∷ [])) host
scope_words true targets host = Some (platform_words targets)

-- the arguments of the full request, with these for the dependencies
abbrev pub full_with : Option Name → List Name → List Name
full_with path scope = codes "metadata" ∷ codes "--format-version=1" ∷ (manifest_words path ++ scope)

-- the arguments of the full request; none where the host is wanted, and not known
abbrev pub full_of : Args → Option Name → Option (List Name)
full_of args host = option_map (full_with (optional_text args.manifest_path)) (scope_words args.include_deps_features (map string_bytes args.target.items) host)

-- a question for the metadata: what is asked, and the programs that are asked
pub record Question : Type 0 where
  pub cargo : Name
  pub rustup : Name
  pub cargo_version : ℕ
  pub deps : Bool
  -- the folder that paths are shown in, and whether commands are shown verbose
  pub dir : Name
  pub verbose : Bool
  pub path : Option Name
  -- the arguments of the full request; none where the host is wanted, and not known
  pub full : Option (List Name)

-- the question of a call with these arguments
abbrev pub question : Args → Env → ℕ → Option Name → Question
question args env minor host = record {
  cargo = string_bytes env.cargo;
  rustup = string_bytes env.rustup;
  cargo_version = minor;
  deps = args.include_deps_features;
  dir = string_bytes env.current_dir;
  verbose = args.verbose;
  path = optional_text args.manifest_path;
  full = full_of args host;
}

-- stable's cargo with these arguments
abbrev pub by_stable : Question → List Name → Command
by_stable q words = plain_command q.rustup [] (codes "run" ∷ codes "stable" ∷ codes "cargo" ∷ words)

-- the command that asks stable's cargo for its version
abbrev pub version_command : Name → Command
version_command rustup = plain_command rustup [] (codes "run" ∷ codes "stable" ∷ codes "cargo" ∷ codes "-vV" ∷ [])

-- the first request to cargo, without dependencies
abbrev pub first_command : Question → Command
first_command q = plain_command q.cargo [] (codes "metadata" ∷ codes "--format-version=1" ∷ codes "--no-deps" ∷ manifest_words q.path)

-- the command that makes the lockfile
abbrev pub lock_command : Question → Command
lock_command q = plain_command q.cargo [] (codes "generate-lockfile" ∷ manifest_words q.path)
