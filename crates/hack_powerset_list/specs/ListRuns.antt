-- The runs of a command list, from what is asked for and a package's features.
use Rattle.std.specs.Prelude.{List, length, nat_lt, true, false}
use Rattle.hack_features.specs.declared.feature.Feature.{Feature}
use Rattle.hack_plan.specs.declared.runs.RunOptions.{RunOptions}
use Rattle.hack_powerset_list.specs.declared.wishes.Wishes.{Wishes}

-- how the runs are chosen
abbrev pub options_from : Wishes → List Feature → RunOptions
options_from wishes features = record {
  powerset = true;
  depth = wishes.depth;
  normal = length features;
  optional = 0;
  all_optional_deps = false;
  included = false;
  exclude_all_features = nat_lt 0 (length wishes.mutually_exclusive.items);
  exclude_no_default_features = nat_lt 0 (length wishes.at_least_one_of.items);
}
