-- Specifications in the code as plain data.
use Rattle.std.specs.Prelude.{string_bytes}
use Rattle.hack_pkgids.specs.PackageSpecs.{Identity}
use Rattle.hack_metadata.specs.declared.metadata.package.Package.{Package}

-- what a specification is compared with
abbrev pub identity_of : Package → Identity
identity_of p = record { name = string_bytes p.name; version = string_bytes p.version; id = string_bytes p.id }
