use Rattle.std.proofs.Common.{◌≡◌, ◌++◌, drop}
use Rattle.toml.specs.View.{items_view}
use Rattle.hack_base.specs.Names.{names_of}
use Rattle.hack_manifest.specs.Manifest.{texts_in}
use Rattle.hack_manifest.proofs.features.texts_of.Given as goal

-- the texts so far and the remaining ones are all
abbrev pub invariant-loop-value : goal.invariant-loop-value
invariant-loop-value l =
    names_of l.texts.items ++ texts_in (items_view (drop l.value-index l.value-items)) ≡ texts_in (items_view l.value-items)
