use Rattle.std.proofs.Common.{sym, subst, Contains}
use Rattle.std.proofs.lemmas.List.Elements.{Contains-append_left}
use Rattle.hack_routes.specs.InternalPlaces.{IsMore}
use Rattle.hack_samples.specs.Sets.{rows_of}
use Rattle.hack_features.specs.Feature.{groups_of, candidates_of}
use Rattle.hack_routes.specs.InternalNamesView.{table}
use Rattle.hack_routes.specs.RoutesView.{routed_names}
use Rattle.hack_routes.proofs.PlaceLemmas.{all_at-front, more-then}
use Rattle.hack_features.proofs.placed.Placed.new.Goals as goal

pub new-requires-clause-known : goal.new-requires-clause-known
new-requires-clause-known c = λ x k.
    let start = table c.add_keys.new.self in
    let more : IsMore start (table c.group_places.new.names) = more-then start (table c.candidate_places.new.names) (table c.group_places.new.names) c.in_ok-candidates.ensures.kept c.in_ok-groups.ensures.kept in
    subst (λ ns. Contains ns x) (sym more.1) (Contains-append_left start more.0 x (c.in_ok-add_keys.ensures.known x k))

pub returns : goal.returns
returns c =
    let second = table c.candidate_places.new.names in
    let third = table c.group_places.new.names in
    let last = routed_names c.in_ok-routes.routes in
    let kept : IsMore third last = c.in_ok-routes.ensures.kept in
    record {
      routes = c.in_ok-routes.ensures.routes;
      candidates_at = all_at-front second last (more-then second third last c.in_ok-groups.ensures.kept kept) (rows_of c.in_ok-candidates.candidates.items) (candidates_of c.args.candidates.now) c.in_ok-candidates.ensures.rows;
      groups_at = all_at-front third last kept (rows_of c.in_ok-groups.groups.items) (groups_of c.args.groups.now) c.in_ok-groups.ensures.rows;
    }
