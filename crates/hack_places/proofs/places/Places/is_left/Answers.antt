use Rattle.hack_places.proofs.LookLemmas.{left_is, seen_more}
use Rattle.hack_places.specs.PlacesView.{places_view}
use Rattle.hack_places.proofs.places.Places.is_left.Goals as goal

pub returns-clause-found : goal.returns-clause-found
returns-clause-found g c =
    left_is g.F.Files.tells _ _ _ (places_view c.args.self.now) c.in_ok-journal.journal c.in_ok-older.older c.in_ok-copy.copy c.any_of.result c.any_of.ensures
    (rw c.as_str.ensures.value at c.in_ok-journal.ensures.found) c.in_ok-journal.ensures.same
    (rw c.as_str-2.ensures.value at c.in_ok-older.ensures.found) c.in_ok-older.ensures.same
    (rw c.as_str-3.ensures.value at c.in_ok-copy.ensures.found)

pub returns-clause-seen : goal.returns-clause-seen
returns-clause-seen g c = seen_more g.F.Files _ _ _ (seen_more g.F.Files _ _ _ c.in_ok-journal.ensures.seen c.in_ok-older.ensures.seen) c.in_ok-copy.ensures.seen
