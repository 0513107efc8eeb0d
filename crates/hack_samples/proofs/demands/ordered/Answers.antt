use Rattle.std.proofs.Common.{◌∙◌, sym, ap}
use Rattle.std.proofs.lemmas.List.Sorted.{list_any-IsPermutation}
use Rattle.hack_samples.specs.Sets.{has, has_one_of}
use Rattle.hack_samples.proofs.demands.ordered.Goals as goal

pub returns : goal.returns
returns c = λ s. sym (list_any-IsPermutation (has s) c.in_ok-ordered.ordered.items c.sort_by_key.new.self.items c.sort_by_key.ensures.permutation) ∙ ap (has_one_of s) c.in_ok-ordered.ensures.items
