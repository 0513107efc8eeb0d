use Rattle.std.proofs.Common.{◌≡◌, ◌++◌, map, Ok}
use Rattle.serde_json.specs.View.{items_view}
use Rattle.hack_metadata.specs.Fields.{read_all}
use Rattle.hack_base.specs.FieldReadings.{◌>>=◌}
use Rattle.hack_metadata.specs.MetadataReading.{read_kind}
use Rattle.hack_metadata.specs.RecordViews.{kind_view}
use Rattle.hack_metadata.proofs.metadata.resolve.DepKindInfo.all_from.Given as goal

-- what was read, and then what is read of the rest, is what is read of the whole list
abbrev pub invariant-loop-value : goal.invariant-loop-value
invariant-loop-value l =
    (read_all read_kind (items_view l.value-iterator.rest.items) >>= λ more. Ok (map kind_view l.found.items ++ more)) ≡ read_all read_kind (items_view l.fn.list.items)
