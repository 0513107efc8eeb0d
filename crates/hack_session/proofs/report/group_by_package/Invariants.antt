use Rattle.std.proofs.Common.{◌≡◌, ℕ, List, map, take, filter, string_bytes, bytes_eq}
use Rattle.std.specs.Prelude.{is_some}
use Rattle.std.specs.List.{list_any}
use Rattle.std.specs.BTreeMap.{get_by_text}
use Rattle.hack_session.specs.Reports.{texts_under}
use Rattle.hack_session.proofs.report.group_by_package.Given as goal

abbrev pub invariant-loop-failure : goal.invariant-loop-failure
invariant-loop-failure l =
    ((q : List ℕ) → texts_under q l.commands ≡ map (λ f. string_bytes f.text) (filter (λ f. bytes_eq q (string_bytes f.name)) (take l.failure-index l.failures)))
    × ((q : List ℕ) → is_some (get_by_text l.commands q) ≡ list_any (λ f. bytes_eq q (string_bytes f.name)) (take l.failure-index l.failures))
