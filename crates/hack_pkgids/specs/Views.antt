-- Parts of specifications, and what these are compared with, as plain data.
use Rattle.std.specs.Prelude.{◌∷◌, [], List, Some, Option, option_copied}
use Rattle.std.specs.Borrow.{Bor}
use Rattle.hack_base.specs.Names.{Name}
use Rattle.hack_pkgids.specs.PackageSpecs.{Identity, Url}
use Rattle.hack_pkgids.specs.declared.pkgids.PackageIdentity.{PackageIdentity}
use Rattle.hack_pkgids.specs.declared.pkgids.VersionParts.{VersionParts}
use Rattle.hack_pkgids.specs.declared.pkgids.UrlParts.{UrlParts}

-- what a specification is compared with
abbrev pub identity_of : PackageIdentity → Identity
identity_of p = record { name = p.name.now; version = p.version.now; id = p.id.now }

-- two parts of a text
abbrev pub pair_view : Bor Name × Bor Name → Name × Name
pair_view parts = (parts.0.now, parts.1.now)

-- the parts of a version
abbrev pub version_view : VersionParts → List (Option Name)
version_view v =
    Some v.major.now ∷ option_copied v.minor ∷ option_copied v.patch
    ∷ option_copied v.pre ∷ option_copied v.build ∷ []

-- the parts of a URL
abbrev pub url_view : UrlParts → Url
url_view u = record { protocol = u.protocol.now; path = u.path.now; query = option_copied u.query; fragment = option_copied u.fragment }
