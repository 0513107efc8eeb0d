use Rattle.std.specs.Prelude.{◌++◌, codes}
use Rattle.std.specs.Str.{bytes_eq}
use Rattle.std.proofs.Common.{ap, ◌∙◌}
use Rattle.std.specs.List.{list_any}
use Rattle.hack_base.specs.Names.{names_of}
use Rattle.hack_load.proofs.FeatureLemmas.{named-values}
use Rattle.hack_load.proofs.features.is_named.Goals as goal

pub loop-values-init : goal.loop-values-init
loop-values-init c =
    ap (list_any (λ values. list_any (bytes_eq (codes "dep:" ++ c.args.dep.now)) (names_of values.items))) (c.into_iter-values-iterator.ensures.into_iter_gives ∙ c.values-values-items.ensures.rest)
    ∙ named-values c.args.dep.now c.args.features.now.entries
