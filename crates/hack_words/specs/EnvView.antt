-- What a call reads from its environment.
use Rattle.std.specs.Prelude.{◌≡◌, ℕ, List, [], ◌∷◌, Bool, false, Option, Some, None, String, string_bytes, codes, map, bytes_eq, if◌then◌else◌}
use Rattle.hack_base.specs.Names.{Name, optional_text}
use Rattle.std.specs.Option.{is_some, option_or, unwrap_or}
use Rattle.hack_words.specs.declared.cli.env.Env.{Env}

-- an environment variable
pub record Variable : Type 0 where
  pub name : List ℕ
  pub value : List ℕ

-- the variables as pairs of a name and its value
abbrev pub vars_of : {Y : Type 0} → List (String Y × String Y) → List Variable
vars_of vars = map (λ v. record { name = string_bytes v.0; value = string_bytes v.1 }) vars

-- the value of the first variable of this name
abbrev pub variable : List ℕ → List Variable → Option (List ℕ)
variable name [] = None
variable name (v ∷ vars) = if bytes_eq v.name name then Some v.value else variable name vars

-- a variable of this name is set
abbrev pub is_set : List ℕ → List Variable → Bool
is_set name vars = is_some (variable name vars)

-- the environment read from variables that have these values, and the current folder, of a call
-- that the guard of another started or not
pub record IsEnvBy (value : Name → Option Name) (current_dir : Name) (by_guard : Bool) (env : Env) : Type 0 where
  pub term_color : optional_text env.term_color ≡ value (codes "CARGO_TERM_COLOR")
  pub github_actions : env.github_actions ≡ is_some (value (codes "GITHUB_ACTIONS"))
  pub deny_warnings : env.deny_warnings ≡ is_some (value (codes "CARGO_HACK_DENY_WARNINGS"))
  pub cargo : string_bytes env.cargo
      ≡ unwrap_or (option_or (value (codes "CARGO_HACK_CARGO_SRC")) (value (codes "CARGO"))) (codes "cargo")
  pub rustup : string_bytes env.rustup ≡ unwrap_or (value (codes "CARGO_HACK_RUSTUP")) (codes "rustup")
  pub folder : string_bytes env.current_dir ≡ current_dir
  pub guarded : env.by_guard ≡ by_guard

-- the environment read from these variables and the current folder, of a call that no guard started
abbrev pub IsEnv : List Variable → Name → Env → Type 0
IsEnv vars current_dir env = IsEnvBy (λ name. variable name vars) current_dir false env
