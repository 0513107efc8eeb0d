use Rattle.hack_rules.proofs.GroupLemmas.{groups-names}
use Rattle.hack_rules.proofs.listed.Lists.of.Goals as goal

pub returns : goal.returns
returns c = record {
  features = c.in_ok-features.ensures;
  includes = c.in_ok-include_features.ensures;
  excludes = c.in_ok-exclude_features.ensures;
  optional = c.in_ok-optional_deps.ensures;
  groups = groups-names _ _ c.in_ok-group_features.ensures;
  exclusive = groups-names _ _ c.in_ok-mutually_exclusive_features.ensures;
  each_group = c.in_ok-group_features.ensures;
  each_exclusive = c.in_ok-mutually_exclusive_features.ensures;
}
