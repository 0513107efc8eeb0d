-- What is known of rustup.
use Rattle.std.specs.Prelude.{ℕ, List, Option, Some, None, string_bytes}
use Rattle.hack_versions.specs.declared.rustup.Rustup.{Rustup}
use Rattle.hack_versions.specs.declared.rustup.Rustup.TheVariants.{Known, Unknown}

-- its minor version, where it is known
abbrev pub known_of : Rustup → Option ℕ
known_of (Known minor) = Some minor
known_of rustup = None

-- why it isn't known, where it was asked for
abbrev pub unknown_of : Rustup → Option (List ℕ)
unknown_of (Unknown why) = Some (string_bytes why)
unknown_of rustup = None
