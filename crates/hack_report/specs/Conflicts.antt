-- What searches for conflicts say of packages, where it is reported.
use Rattle.std.specs.Prelude.{ℕ, ◌||◌, ◌==◌, ◌++◌, Bool, true, false, not, List, [], ◌∷◌, Option, None, Some, codes, is_some, length, nat_lt, slice_get, if◌then◌else◌}
use Rattle.std.specs.Fmt.{decimal}
use Rattle.std.specs.List.{flat_map, join_by, slice_index_or}
use Rattle.hack_base.specs.Names.{Name}
use Rattle.hack_closures.specs.declared.build.Build.{Build}
use Rattle.hack_closures.specs.declared.build.Build.TheVariants.{NoFeatures, AllFeatures, Set}
use Rattle.hack_hunt.specs.declared.hunt.Hunted.{Hunted}
use Rattle.hack_plan.specs.Commands.{slot_target, slots_in}
use Rattle.hack_plan.specs.View.{PlanView}
use Rattle.hack_report.specs.Findings.{package_name}
use Rattle.hack_report.specs.Remarks.{RemarkView, one_remark}
use Rattle.hack_report.specs.declared.remarks.RemarkKind.TheVariants.{Info, Warning, Error}
use Rattle.hack_session.specs.SuspectNotes.{for_target_text, package_candidates}

-- some set of the package's features is known to fail
abbrev pub has_conflict : Hunted → Bool
has_conflict hunted = not (length hunted.conflicts.items == 0) || is_some hunted.unfinished

-- not all of its sets are decided
abbrev pub is_open : Hunted → Bool
is_open hunted = not hunted.complete

-- ---- lines

-- the target, where each has runs of its own
abbrev pub own_target : ℕ → Option (List ℕ) → List ℕ
own_target slots target = if nat_lt 1 slots then for_target_text target else []

-- where the runs of a search are: its package, and the target of its slot
abbrev pub spot_text : PlanView → Hunted → List ℕ
spot_text plan h = codes "in " ++ (package_name plan h.member ++ own_target (slots_in plan.call None) (slot_target plan.call None h.slot))

-- the names of the candidates of its package
abbrev pub candidates_of : PlanView → Hunted → List (List Name)
candidates_of plan h = package_candidates (slice_get plan.packages h.member)

-- the names of the candidates at these positions
abbrev pub names_at : List (List Name) → List ℕ → List Name
names_at candidates positions = flat_map (λ position. slice_index_or candidates position []) positions

-- the names of a set, with commas between them, or in words what was built for it
abbrev pub build_text : Bool → List (List Name) → Build → List ℕ
build_text plain candidates NoFeatures = if plain then codes "the package as it is: it has no feature to choose" else codes "no feature at all"
build_text plain candidates AllFeatures = codes "all features"
build_text plain candidates (Set positions) = join_by (λ name. name) (codes ",") (names_at candidates positions.items)

-- a line for each of these sets
abbrev pub build_lines : Bool → List (List Name) → List Build → List ℕ
build_lines plain candidates sets = flat_map (λ set. codes "\n    " ++ build_text plain candidates set) sets

-- the least sets that fail, if there are some
abbrev pub conflict_remarks : List ℕ → Bool → List (List Name) → List Build → List RemarkView
conflict_remarks spot plain candidates [] = []
conflict_remarks spot plain candidates (set ∷ sets) =
    one_remark Error (spot ++ (codes " these features fail together, and no part of them that may be chosen fails:" ++ build_lines plain candidates (set ∷ sets)))

-- the set that failed and wasn't made smaller, if there is one
abbrev pub unfinished_remarks : List ℕ → Bool → List (List Name) → Option Build → List RemarkView
unfinished_remarks spot plain candidates None = []
unfinished_remarks spot plain candidates (Some set) = one_remark Error (spot ++ (codes " these features fail together, and not all parts of them were tried:\n    " ++ build_text plain candidates set))

-- how many greatest sets passed, by whether the search is complete, and whether it found no conflict
abbrev pub passing_text : List ℕ → ℕ → List ℕ → Bool → Bool → List ℕ
passing_text spot count sets false none = if count == 1 then spot ++ (codes " 1 set passed so far" ++ sets)
    else spot ++ (codes " " ++ (decimal count ++ (codes " sets passed so far" ++ sets)))
passing_text spot count sets true true = if count == 1 then spot ++ (codes " each allowed set lies inside the one set that passed" ++ sets)
    else spot ++ (codes " each allowed set lies inside one of " ++ (decimal count ++ (codes " sets that passed" ++ sets)))
passing_text spot count sets true false = if count == 1 then spot ++ (codes " each other allowed set lies inside the one set that passed" ++ sets)
    else spot ++ (codes " each other allowed set lies inside one of " ++ (decimal count ++ (codes " sets that passed" ++ sets)))

-- in a verbose call also which
abbrev pub passing_lines : Bool → Bool → List (List Name) → List Build → List ℕ
passing_lines verbose plain candidates sets = if verbose then codes ":" ++ build_lines plain candidates sets else []

-- ... if there are some
abbrev pub passing_remarks : Bool → List ℕ → Bool → List (List Name) → Hunted → List Build → List RemarkView
passing_remarks verbose spot plain candidates h [] = []
passing_remarks verbose spot plain candidates h (set ∷ sets) =
    one_remark Info (passing_text spot (length h.passing.items) (passing_lines verbose plain candidates (set ∷ sets)) h.complete (length h.conflicts.items == 0))

-- the warning where not all sets are decided
abbrev pub open_remarks : List ℕ → Bool → List RemarkView
open_remarks spot true = []
open_remarks spot false = one_remark Warning (spot ++ codes " the search isn't complete, since --most-runs ended it: other sets may fail")

-- what is said of a package in a slot
abbrev pub hunt_remarks : Bool → PlanView → Hunted → List RemarkView
hunt_remarks verbose plan h =
    let spot = spot_text plan h in
    let candidates = candidates_of plan h in
    conflict_remarks spot h.plain candidates h.conflicts.items ++ (unfinished_remarks spot h.plain candidates h.unfinished
    ++ (passing_remarks verbose spot h.plain candidates h h.passing.items ++ open_remarks spot h.complete))

-- the same of all that was searched, in order
abbrev pub hunted_remarks : Bool → PlanView → List Hunted → List RemarkView
hunted_remarks verbose plan found = flat_map (hunt_remarks verbose plan) found
