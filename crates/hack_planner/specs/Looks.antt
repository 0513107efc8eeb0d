-- The packages of a call whose samples are looked for long.
use Rattle.std.specs.Prelude.{ℕ, ◌++◌, List, [], Option, Some, None, codes, length, min, nat_lt, option_and_then, if◌then◌else◌}
use Rattle.std.specs.List.{filter_map}
use Rattle.std.specs.Fmt.{decimal}
use Rattle.hack_base.specs.Names.{Name}
use Rattle.hack_load.specs.Contexts.{ContextRecord, package_at, features_at}
use Rattle.hack_load.specs.declared.features.Features.{Features}
use Rattle.hack_planner.specs.Calls.{rules_at}
use Rattle.hack_planner.specs.Candidates.{candidates}
use Rattle.hack_planner.specs.ContextMembers.{AreChosen, IsChoiceFault}
use Rattle.hack_planner.specs.PackageRules.{PackageRulesRecord}
use Rattle.hack_planner.specs.PatternCounts.{many_patterns, patterns}
use Rattle.hack_planner.specs.declared.fault.PackagesFault.{PackagesFault}

-- the text on a package whose sample is looked for long: how many candidates, and which strength
abbrev pub look_text : Name → ℕ → ℕ → List ℕ
look_text pkg n t = codes "looking for a sample of `" ++ (pkg ++ (codes "`: " ++ (decimal n ++ (codes " features at strength " ++ decimal t))))

-- the same, where there is a strength, and there are many patterns of so many candidates, or of all where they are fewer
abbrev pub look_among : Name → ℕ → Option ℕ → Option (List ℕ)
look_among pkg n None = None
look_among pkg n (Some t) = if nat_lt many_patterns (patterns n (min t n)) then Some (look_text pkg n t) else None

-- the same of a package with these rules, under a powerset
abbrev pub look_of : PackageRulesRecord → Name → Features → Option (List ℕ)
look_of r pkg f = if r.feature_powerset then look_among pkg (length (candidates r f)) r.strength else None

-- the same of a package of the call
abbrev pub look_at : ContextRecord → ℕ → Option (List ℕ)
look_at cx id = option_and_then (λ p. option_and_then (λ f. look_of (rules_at cx p f) p.name f) (features_at cx id)) (package_at cx id)

-- the texts on the packages that the call runs on, in order; none where it isn't known which these are
pub data AreLongLooks (cx : ContextRecord) : List (List ℕ) → Type 0 where
  of_chosen : (ids : List ℕ) → ((e : PackagesFault) → ¬ IsChoiceFault cx e) → AreChosen cx ids → AreLongLooks cx (filter_map (look_at cx) ids)
  of_unknown : (e : PackagesFault) → IsChoiceFault cx e → AreLongLooks cx []
