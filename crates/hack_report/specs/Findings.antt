-- What searches for the least version say of packages, where it is reported.
use Rattle.std.specs.Prelude.{ℕ, ◌||◌, ◌&&◌, ◌+◌, ◌++◌, Bool, true, false, List, [], ◌∷◌, Option, None, Some, codes, is_some, option_and_then, slice_get}
use Rattle.std.specs.Option.{option_map_or}
use Rattle.std.specs.List.{find}
use Rattle.std.specs.Str.{bytes_eq}
use Rattle.hack_base.specs.Names.{Name}
use Rattle.hack_load.specs.Contexts.{ContextRecord, package_at, rust_version_at}
use Rattle.hack_msrv.specs.declared.found.Found.{Found}
use Rattle.hack_msrv.specs.declared.found.Found.TheVariants.{Untried, Least, Nowhere, Broken}
use Rattle.hack_plan.specs.Commands.{command_of_entry, toolchain_of}
use Rattle.hack_plan.specs.View.{PlanView}
use Rattle.hack_plan.specs.declared.places.PlanEntry.{PlanEntry}
use Rattle.hack_process.specs.CommandTexts.{text_of}
use Rattle.hack_report.specs.Remarks.{RemarkView, one_remark}
use Rattle.hack_report.specs.declared.remarks.RemarkKind.TheVariants.{Info, Warning, Error}
use Rattle.hack_versions.specs.VersionTexts.{range_text}
use Rattle.hack_versions.specs.declared.version.Version.{Version}

-- the package's greatest version fails
abbrev pub is_failing : Found → Bool
is_failing (Nowhere version failed) = true
is_failing Untried = false
is_failing (Least version failed) = false
is_failing Broken = false

-- the version at an index of the plan's versions, where it has versions
abbrev pub version_at : PlanView → ℕ → Option Version
version_at plan index = option_and_then (λ v. v.version) (slice_get plan.versions index)

-- the version of a place
abbrev pub place_version : PlanView → ℕ → Option Version
place_version plan place = option_and_then (λ q. q.version) (slice_get plan.entries place)

-- the name of a package of the plan
abbrev pub package_name : PlanView → ℕ → Name
package_name plan member = option_map_or (λ p. p.name) (slice_get plan.packages member) []

-- a member has this name
abbrev pub is_named : ContextRecord → Name → ℕ → Bool
is_named cx name id = option_map_or (λ p. bytes_eq p.name name) (package_at cx id) false

-- the `rust-version` of the first member of this name
abbrev pub own_version : ContextRecord → Name → Option Name
own_version cx name = option_and_then (rust_version_at cx) (find (is_named cx name) cx.metadata.workspace_members)

-- the package has a `rust-version`, and a run failed on the version before the least one: so it doesn't keep
-- what it promises, since none below its own is tried
abbrev pub is_too_low : ContextRecord → PlanView → Name → Found → Bool
is_too_low cx plan name (Least version failed) =
    is_some (version_at plan version) && (is_some (own_version cx name) && is_some (option_and_then (place_version plan) failed))
is_too_low cx plan name Untried = false
is_too_low cx plan name (Nowhere version failed) = false
is_too_low cx plan name Broken = false

-- so it is of some of the packages from one on
abbrev pub some_too_low : ContextRecord → PlanView → ℕ → List Found → Bool
some_too_low cx plan member [] = false
some_too_low cx plan member (f ∷ found) = is_too_low cx plan (package_name plan member) f || some_too_low cx plan (member + 1) found

-- ---- lines

-- a run that fails, which has this text, on its version, if it has one
abbrev pub failing_on : Option Version → List ℕ → List ℕ
failing_on None command = codes "this fails: " ++ command
failing_on (Some version) command = codes "on " ++ (toolchain_of version ++ (codes " this fails: " ++ command))

-- a run that fails, if it is one of the plan's
abbrev pub failure_of : ContextRecord → PlanView → Option PlanEntry → List ℕ
failure_of cx plan None = []
failure_of cx plan (Some q) = failing_on q.version (text_of cx.args.verbose cx.current_dir (command_of_entry plan q))

abbrev pub failure_text : ContextRecord → PlanView → ℕ → List ℕ
failure_text cx plan place = failure_of cx plan (slice_get plan.entries place)

-- the range of versions that the arguments ask for
abbrev pub asked_range : ContextRecord → List ℕ
asked_range cx = option_map_or range_text cx.args.version_range []

-- what is said of the least version of a package, and of the place that fails before it, if there is one
abbrev pub least_text : ContextRecord → PlanView → Name → Version → Option ℕ → List ℕ
least_text cx plan name least None = name ++ (codes ": all runs pass on each version that was tried, down to " ++ toolchain_of least)
least_text cx plan name least (Some place) =
    name ++ (codes ": " ++ (toolchain_of least ++ (codes " is the least version of " ++ (asked_range cx ++ (codes " on which all runs pass; " ++ failure_text cx plan place)))))

-- the warning on a package that has a `rust-version`, where a run failed on another version
abbrev pub promise_remarks : Name → Option Name → Option Version → List RemarkView
promise_remarks name None failed = []
promise_remarks name (Some own) None = []
promise_remarks name (Some own) (Some failed) = one_remark Warning (name ++ (codes ": its rust-version is " ++ (own ++ (codes ", but not all runs pass on " ++ toolchain_of failed))))

-- what is said of a package that has a least version: where the plan has it, and what failed before it
abbrev pub least_remarks : ContextRecord → PlanView → Name → Option Version → Option ℕ → List RemarkView
least_remarks cx plan name None failed = []
least_remarks cx plan name (Some least) failed = one_remark Info (least_text cx plan name least failed) ++ promise_remarks name (own_version cx name) (option_and_then (place_version plan) failed)

-- what is said of a package: nothing where it has no run, or its search was broken off
abbrev pub remarks_on : ContextRecord → PlanView → Name → Found → List RemarkView
remarks_on cx plan name Untried = []
remarks_on cx plan name Broken = []
remarks_on cx plan name (Least version failed) = least_remarks cx plan name (version_at plan version) failed
remarks_on cx plan name (Nowhere version failed) = one_remark Error (name ++ (codes ": " ++ failure_text cx plan failed))

-- the same of each package from one on
abbrev pub found_remarks : ContextRecord → PlanView → ℕ → List Found → List RemarkView
found_remarks cx plan member [] = []
found_remarks cx plan member (f ∷ found) = remarks_on cx plan (package_name plan member) f ++ found_remarks cx plan (member + 1) found
