use Rattle.std.proofs.Common.{◌≡◌, ◌∙◌, sym, subst, true}
use Rattle.hack_features.specs.Samples.{positions_of}
use Rattle.hack_features.specs.View.{may_of}
use Rattle.hack_least.proofs.SetLemmas.{same-permitted}
use Rattle.hack_least.proofs.ties_of.Goals as goal

pub count_ties-requires-clause-permitted : goal.count_ties-requires-clause-permitted
count_ties-requires-clause-permitted c =
    let r = c.args.rules.now in
    same-permitted r c.joins.new.rules c.as_slice.result.now c.joins.ensures.same
    (subst (λ s. may_of r (positions_of s) ≡ true) (sym (c.as_slice.ensures.value ∙ c.in_ok-one.ensures)) (c.joins.ensures.joined c.if-not-joins.false))
