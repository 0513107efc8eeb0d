use Rattle.std.proofs.Common.{rules, tests, ◌∙◌, sym}
use Rattle.std.proofs.lemmas.Iterator.{YieldsList-from_slice}
use Rattle.std.proofs.lemmas.Iterator.Search.{all_from_yields_List}
use Rattle.std.proofs.lemmas.List.Folds.{list_all-map}
use Rattle.hack_samples.specs.Sets.{has_one_of}
use Rattle.hack_samples.proofs.sets.has_each.Goals as goal

pub returns : goal.returns
returns c =
    all_from_yields_List (λ v. has_one_of c.args.set.now v.items) _ _ _ c.all.ensures.ran (YieldsList-from_slice c.args.groups.now cc) (λ x b q k. search (rules, tests))
    ∙ sym (list_all-map (has_one_of c.args.set.now) (λ v. v.items) c.args.groups.now)
