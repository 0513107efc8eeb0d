use Rattle.std.proofs.Common.{◌≡◌, ◌∙◌, ◌++◌, ◌∷◌, suc, true, false, List, take, drop, inr, ap, sym, subst, map, string_bytes}
use Rattle.hack_base.specs.Names.{Name, names_of}
use Rattle.hack_planner.specs.Members.{MatchesSome}
use Rattle.hack_planner.specs.MembersView.{member_view}
use Rattle.hack_planner.proofs.Growth.{each-more, round}
use Rattle.hack_planner.proofs.listing.check_named.Goals as goal

pub loop-spec-preserved : goal.loop-spec-preserved
loop-spec-preserved c =
    let P = MatchesSome (map member_view c.args.members.now) in
    each-more P string_bytes c.args.specs.now c.loop-spec.spec-index c.spec-item.result c.loop-spec-test.true c.spec-item.is
    (subst P c.as_str.ensures.value (c.matches_some.ensures.0 c.if-not-matches_some.false))
    c.loop-spec.invariant

pub returns-then-not-matches_some-clause-err : goal.returns-then-not-matches_some-clause-err
returns-then-not-matches_some-clause-err c =
    let P = MatchesSome (map member_view c.args.members.now) in
    let names : List Name = names_of c.args.specs.now in
    let k = c.loop-spec.spec-index in
    let same : string_bytes c.in_ok-clone.field-0 ≡ string_bytes c.spec-item.result = c.in_ok-clone.ensures.cases in
    inr (record {
      before = take k names;
      behind = drop (suc k) names;
      whole = round string_bytes c.args.specs.now k c.spec-item.result c.loop-spec-test.true c.spec-item.is ∙ ap (λ y. take k names ++ y ∷ drop (suc k) names) (sym same);
      matched = c.loop-spec.invariant;
      unmatched = λ m.
          let t : c.matches_some.result ≡ true = c.matches_some.ensures.1 (subst P (same ∙ sym c.as_str.ensures.value) m) in
          let e : true ≡ false = sym t ∙ c.if-not-matches_some.true in
          cc;
    })
