use Rattle.std.proofs.Common.{◌≡◌, List, drop, map, option_map}
use Rattle.hack_base.specs.Names.{names_of}
use Rattle.hack_rules.specs.CliFaults.{Excluded}
use Rattle.hack_rules.specs.Rules.{first_of}
use Rattle.hack_rules.specs.EarlyRules.{option_naming}
use Rattle.hack_rules.specs.ListsView.{AreListsOf}
use Rattle.hack_rules.specs.Uses.{Use}
use Rattle.hack_rules.proofs.early.check_excluded.Given as goal

abbrev pub invariant-loop-name : goal.invariant-loop-name
invariant-loop-name l = (us : List Use) → AreListsOf us l.lists →
    first_of (map (λ name. option_map (Excluded name) (option_naming us name)) (names_of l.lists.exclude_features.items))
    ≡ first_of (map (λ name. option_map (Excluded name) (option_naming us name)) (names_of (drop l.name-index l.name-items)))
