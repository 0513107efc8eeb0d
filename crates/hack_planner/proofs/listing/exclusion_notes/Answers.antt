use Rattle.std.proofs.Common.{◌≡◌, ◌≤◌, ◌∙◌, ◌++◌, [], ◌∷◌, true, false, length, sym, ap, subst, map, string_bytes, arith}
use Rattle.std.proofs.lemmas.List.{map-append}
use Rattle.hack_base.specs.Names.{Name}
use Rattle.hack_base.specs.Notes.{note_of, warning_note}
use Rattle.hack_planner.specs.Texts.{exclusion_text}
use Rattle.hack_planner.specs.Members.{Collects, ends, MatchesSome}
use Rattle.hack_planner.specs.MembersView.{member_view}
use Rattle.hack_planner.proofs.Growth.{collects-taken, collects-left, collects-all}
use Rattle.hack_planner.proofs.listing.exclusion_notes.Goals as goal

pub loop-spec-init : goal.loop-spec-init
loop-spec-init c =
    let P = MatchesSome (map member_view c.args.members.now) in
    subst (λ l. Collects (λ (spec : Name). ¬ P spec) (λ (spec : Name). warning_note (exclusion_text c.args.root.now spec)) [] (map note_of l)) (sym c.new-notices.ensures.items) ends

pub loop-spec-preserved-then-matches_some : goal.loop-spec-preserved-then-matches_some
loop-spec-preserved-then-matches_some c =
    let P = MatchesSome (map member_view c.args.members.now) in
    collects-left (λ (spec : Name). ¬ P spec) (λ (spec : Name). warning_note (exclusion_text c.args.root.now spec)) string_bytes c.args.exclude.now c.loop-spec.spec-index c.spec-item.result _
    c.loop-spec-test.true c.spec-item.is
    (λ fails. fails (subst P c.as_str.ensures.value (c.matches_some.ensures.0 c.if-matches_some.true)))
    c.loop-spec.invariant

pub loop-spec-preserved : goal.loop-spec-preserved
loop-spec-preserved c =
    let P = MatchesSome (map member_view c.args.members.now) in
    collects-taken (λ (spec : Name). ¬ P spec) (λ (spec : Name). warning_note (exclusion_text c.args.root.now spec)) string_bytes c.args.exclude.now c.loop-spec.spec-index c.spec-item.result _ _
    c.loop-spec-test.true c.spec-item.is
    (λ m. let t : c.matches_some.result ≡ true = c.matches_some.ensures.1 (subst P (sym c.as_str.ensures.value) m) in let e : true ≡ false = sym t ∙ c.if-matches_some.false in cc)
    (ap (map note_of) c.in_ok-push.ensures.items ∙ map-append note_of c.loop-spec.notices.items (record { kind = _; text = c.in_ok-text.text } ∷ [])
    ∙ ap (λ t. map note_of c.loop-spec.notices.items ++ warning_note t ∷ []) (c.in_ok-text.ensures ∙ ap (exclusion_text c.args.root.now) c.as_str-in-loop-spec.ensures.value))
    c.loop-spec.invariant

pub returns : goal.returns
returns c =
    let P = MatchesSome (map member_view c.args.members.now) in
    let past : length c.args.exclude.now ≤ c.loop-spec.spec-index = omega arith in
    collects-all (λ (spec : Name). ¬ P spec) (λ (spec : Name). warning_note (exclusion_text c.args.root.now spec)) string_bytes c.args.exclude.now c.loop-spec.spec-index _ past c.loop-spec.invariant
