use Rattle.std.proofs.Common.{IsTrue, IfOk, subst}
use Rattle.std.proofs.lemmas.Result.{IfOk-weaker}
use Rattle.hack_sets.specs.declared.forest.Pruned.{Pruned}
use Rattle.hack_sets.specs.Sets.{IsListing}
use Rattle.hack_sets.specs.Forest.{sets_in}
use Rattle.hack_features.specs.Rules.{IsListed, IsPermitted, AreCovers}
use Rattle.hack_sets.specs.Questions.{IsWholeSet, IsCheap}
use Rattle.hack_features.specs.View.{choice_of, size_of, may_of, whole_of}
use Rattle.hack_features.proofs.RuleLemmas.{tables_of, listing_of, covers_of, cheap_of}
use Rattle.hack_features.proofs.rules.Rules.listed.Goals as goal

pub returns-clause-sets : goal.returns-clause-sets
returns-clause-sets c =
    let r = c.args.self.now in
    IfOk-weaker c.pruned_within.result (λ (p : Pruned). IsListing (size_of r) (IsWholeSet (may_of r) (whole_of r)) (sets_in p.sets)) (λ (p : Pruned). IsListing (size_of r) (IsListed (choice_of r)) (sets_in p.sets))
    (λ (p : Pruned). listing_of r (tables_of r) (sets_in p.sets)) (subst (λ n. IfOk c.pruned_within.result (λ (p : Pruned). IsListing n (IsWholeSet (may_of r) (whole_of r)) (sets_in p.sets))) c.size-n.ensures c.pruned_within.ensures.sets)

pub returns-clause-few : goal.returns-clause-few
returns-clause-few c =
    let r = c.args.self.now in
    IfOk-weaker c.pruned_within.result (λ (p : Pruned). IsCheap (λ s. IsTrue (may_of r s)) (size_of r) p.asked) (λ (p : Pruned). IsCheap (IsPermitted (choice_of r)) (size_of r) p.asked)
    (λ (p : Pruned). cheap_of r (tables_of r) p.asked) (subst (λ n. IfOk c.pruned_within.result (λ (p : Pruned). IsCheap (λ s. IsTrue (may_of r s)) n p.asked)) c.size-n.ensures c.pruned_within.ensures.few)

pub returns-clause-covered : goal.returns-clause-covered
returns-clause-covered c =
    let r = c.args.self.now in
    IfOk-weaker c.pruned_within.result (λ (p : Pruned). IsListing (size_of r) (IsWholeSet (may_of r) (whole_of r)) (sets_in p.sets)) (λ (p : Pruned). AreCovers (choice_of r) (size_of r) (sets_in p.sets))
    (λ (p : Pruned) (l : IsListing (size_of r) (IsWholeSet (may_of r) (whole_of r)) (sets_in p.sets)). covers_of r (tables_of r) (sets_in p.sets) (listing_of r (tables_of r) (sets_in p.sets) l)) (subst (λ n. IfOk c.pruned_within.result (λ (p : Pruned). IsListing n (IsWholeSet (may_of r) (whole_of r)) (sets_in p.sets))) c.size-n.ensures c.pruned_within.ensures.sets)
