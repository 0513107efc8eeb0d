use Rattle.std.proofs.Common.{Ok, ap, sym, subst, ◌∙◌, option_map}
use Rattle.serde_json.specs.View.{members_view}
use Rattle.hack_base.specs.FieldReadings.{◌>>=◌}
use Rattle.hack_base.specs.Names.{names_of}
use Rattle.hack_features.specs.Feature.{groups_of}
use Rattle.hack_metadata.specs.Internal.{FailsAtKey}
use Rattle.hack_metadata.specs.RuleTables.{read_limits}
use Rattle.hack_metadata.proofs.RuleLemmas.{fails-then, known-then, rules-of}
use Rattle.hack_metadata.proofs.metadata.rules.RulesTable.from_known.Goals as goal

pub returns : goal.returns
returns c =
    let m0 = members_view c.args.object.entries in
    let m1 = members_view c.remove_names.new.object.entries in
    let m2 = members_view c.remove_groups.new.object.entries in
    let m3 = members_view c.remove_groups-2.new.object.entries in
    let m4 = members_view c.remove_groups-3.new.object.entries in
    let m5 = members_view c.remove_optional.new.object.entries in
    let a = names_of c.in_ok-excluded.excluded.items in
    let b = groups_of c.in_ok-exclusive.exclusive.items in
    let d = groups_of c.in_ok-needed.needed.items in
    let e = groups_of c.in_ok-grouped.grouped.items in
    let o = option_map (λ names. names_of names.items) c.in_ok-optional.optional in
    subst (λ r. FailsAtKey c.in-Err.fault r)
    (sym (known-then m0 m1 m2 m3 m4 m5 c.in_ok-excluded.ensures.others c.in_ok-exclusive.ensures.others c.in_ok-needed.ensures.others c.in_ok-grouped.ensures.others c.in_ok-optional.ensures.others a b d e o
    c.in_ok-excluded.ensures.value c.in_ok-exclusive.ensures.value c.in_ok-needed.ensures.value c.in_ok-grouped.ensures.value c.in_ok-optional.ensures.value))
    (fails-then c.in-Err.fault (read_limits m5) (λ l. Ok (rules-of a b d e o l)) c.in-Err.ensures)

pub returns-in-Ok : goal.returns-in-Ok
returns-in-Ok c =
    let m0 = members_view c.args.object.entries in
    let m1 = members_view c.remove_names.new.object.entries in
    let m2 = members_view c.remove_groups.new.object.entries in
    let m3 = members_view c.remove_groups-2.new.object.entries in
    let m4 = members_view c.remove_groups-3.new.object.entries in
    let m5 = members_view c.remove_optional.new.object.entries in
    let a = names_of c.in_ok-excluded.excluded.items in
    let b = groups_of c.in_ok-exclusive.exclusive.items in
    let d = groups_of c.in_ok-needed.needed.items in
    let e = groups_of c.in_ok-grouped.grouped.items in
    let o = option_map (λ names. names_of names.items) c.in_ok-optional.optional in
    known-then m0 m1 m2 m3 m4 m5 c.in_ok-excluded.ensures.others c.in_ok-exclusive.ensures.others c.in_ok-needed.ensures.others c.in_ok-grouped.ensures.others c.in_ok-optional.ensures.others a b d e o
    c.in_ok-excluded.ensures.value c.in_ok-exclusive.ensures.value c.in_ok-needed.ensures.value c.in_ok-grouped.ensures.value c.in_ok-optional.ensures.value
    ∙ ap (λ r. r >>= λ l. Ok (rules-of a b d e o l)) c.in-Ok.ensures
