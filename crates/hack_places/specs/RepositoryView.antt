-- A repository as clauses see it.
use Rattle.std.specs.Prelude.{string_bytes}
use Rattle.hack_places.specs.Repositories.{RepositoryAt}
use Rattle.hack_places.specs.declared.repository.Repository.{Repository}

abbrev pub repository_of : Repository → RepositoryAt
repository_of found = record { top = string_bytes found.top; own = string_bytes found.own }
