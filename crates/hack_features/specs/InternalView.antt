-- What only private functions of the crate promise each other.
use Rattle.hack_features.specs.declared.rules.Rules.{Rules}
use Rattle.hack_samples.specs.Sets.{rows_of}
use Rattle.hack_features.specs.Rules.{Choice}
use Rattle.hack_features.specs.Tables.{AreTables}

-- the tables of the rules say what the rules of the choice say
abbrev pub AreTablesOf : Choice → Rules → Type 0
AreTablesOf c r = AreTables c (rows_of r.tables.spares.items) (rows_of r.tables.hits.items) (rows_of r.tables.serves.items)
