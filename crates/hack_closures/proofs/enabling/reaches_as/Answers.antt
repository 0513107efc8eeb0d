use Rattle.std.proofs.Common.{ℕ, [], get_or, arith, refl, sym, ◌∙◌}
use borrow.Author.Count.{below_more}
use Rattle.std.proofs.lemmas.Bool.{false≢true}
use Rattle.std.proofs.lemmas.List.Elements.{All-from_get_or}
use Rattle.hack_features.specs.Rules.{CandidateReaches}
use Rattle.hack_features.specs.View.{choice_of}
use Rattle.hack_closures.proofs.enabling.reaches_as.Goals as goal
use Rattle.hack_closures.proofs.enabling.reaches_as.Goals.{else-reaches-via-then-reaches+else-not-reaches, else-reaches-via-else-reaches}

pub loop-group-preserved : goal.loop-group-preserved
loop-group-preserved c =
    let k = choice_of c.args.rules.now in
    let Both : ℕ → Type 0 = λ g. CandidateReaches k (get_or k.exclusive g []) c.args.q → CandidateReaches k (get_or k.exclusive g []) c.args.p in
    below_more Both c.loop-group.group c.loop-group.invariant
    (elim c.else-reaches.branch [
      | else-reaches-via-then-reaches+else-not-reaches w ↦ λ reach. w.reaches-then-reaches.ensures.0 w.if-not-reaches.false
      | else-reaches-via-else-reaches w ↦ λ reach. absurd (false≢true (sym w.if-reaches.false ∙ c.reaches.ensures.1 reach))
    ])

pub returns : goal.returns
returns c =
    let k = choice_of c.args.rules.now in (
      λ e. All-from_get_or (λ group. CandidateReaches k group c.args.q → CandidateReaches k group c.args.p) k.exclusive [] (λ g lt. c.loop-group.invariant g (omega (arith, lt, c.exclusion_groups-group-end.ensures, c.loop-group-test.false))),
      λ w. refl,
    )
