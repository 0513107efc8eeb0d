use Rattle.std.proofs.Common.{◌∙◌, ap, sym}
use Rattle.hack_places.specs.JournalPlaces.{lockfile_copy}
use Rattle.hack_places.proofs.places.Places.of.Goals as goal

pub returns-clause-found : goal.returns-clause-found
returns-clause-found g c = record {
  folder_is = c.in_ok-place_at.ensures.0;
  journal_is = λ t. c.in_ok-place_at.ensures.1 ∙ c.in_ok-journal.ensures.found t;
  older_folder_is = c.in_ok-place_at-2.ensures.0;
  older_is = c.in_ok-place_at-2.ensures.1 ∙ c.in_ok-older.ensures;
  lockfile_is = c.in_ok-lockfile.ensures;
  copy_is = rw c.as_str.ensures.value at c.in_ok-copy.ensures ∙ ap lockfile_copy (sym c.in_ok-place_at.ensures.1);
}
