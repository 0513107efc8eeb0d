use Rattle.std.proofs.Common.{◌∙◌, sym, subst}
use Rattle.hack_sets.specs.Sets.{IsSelection}
use Rattle.hack_features.specs.View.{size_of}
use Rattle.hack_features.proofs.SampleLemmas.{selected}
use Rattle.hack_least.proofs.serves_each.Goals as goal

pub complete-requires : goal.complete-requires
complete-requires c =
    let n = size_of c.args.rules.now in
    subst (IsSelection n) (sym (c.as_slice.ensures.value ∙ c.in_ok-members.ensures)) (selected n c.args.set.now c.requires)
