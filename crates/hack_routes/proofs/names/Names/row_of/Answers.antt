use Rattle.std.proofs.Common.{◌∙◌, [], sym, ap, subst}
use Rattle.hack_base.specs.Names.{names_of}
use Rattle.hack_routes.specs.InternalSearch.{Adds, IsTarget}
use Rattle.hack_routes.specs.Places.{AreAt}
use Rattle.hack_routes.specs.InternalPlaces.{targets_of}
use Rattle.hack_routes.specs.InternalNamesView.{table}
use Rattle.hack_routes.proofs.ReachLemmas.{values_at-Some, values_at-None, adds-no_targets}
use Rattle.hack_routes.proofs.PlaceLemmas.{at-nothing}
use Rattle.hack_routes.proofs.names.Names.row_of.Goals as goal

pub returns-in_ok-targets-in-Some-clause-row : goal.returns-in_ok-targets-in-Some-clause-row
returns-in_ok-targets-in-Some-clause-row c =
    subst (λ vs. AreAt (table c.targets.new.self) c.in_ok-targets-in-Some.field-0.items (targets_of c.args.edges vs))
    (ap names_of c.as_slice.ensures.value ∙ sym (values_at-Some c.args.map.now c.args.name.now c.in-Some.values.now c.in-Some.ensures.value)) c.in_ok-targets-in-Some.ensures.row

pub returns-in_ok-targets-in-Some-clause-adds : goal.returns-in_ok-targets-in-Some-clause-adds
returns-in_ok-targets-in-Some-clause-adds c =
    subst (λ vs. Adds (IsTarget c.args.edges vs) (table c.args.self.now) (table c.targets.new.self))
    (ap names_of c.as_slice.ensures.value ∙ sym (values_at-Some c.args.map.now c.args.name.now c.in-Some.values.now c.in-Some.ensures.value)) c.in_ok-targets-in-Some.ensures.adds

pub returns-in-None-clause-row : goal.returns-in-None-clause-row
returns-in-None-clause-row c =
    subst (λ vs. AreAt (table c.args.self.now) c.new.result.items (targets_of c.args.edges vs)) (sym (values_at-None c.args.map.now c.args.name.now c.in-None.ensures.value))
    (subst (λ row. AreAt (table c.args.self.now) row []) (sym c.new.ensures.items) (at-nothing (table c.args.self.now)))

pub returns-in-None-clause-adds : goal.returns-in-None-clause-adds
returns-in-None-clause-adds c =
    subst (λ vs. Adds (IsTarget c.args.edges vs) (table c.args.self.now) (table c.args.self.now)) (sym (values_at-None c.args.map.now c.args.name.now c.in-None.ensures.value))
    (adds-no_targets c.args.edges (table c.args.self.now))
