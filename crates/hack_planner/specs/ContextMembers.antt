-- What a loaded call says of packages, and of their features.
use Rattle.std.specs.Prelude.{ℕ, List, Bool, Option, option_map, option_and_then}
use Rattle.std.specs.List.{filter_map}
use Rattle.hack_base.specs.Names.{Name}
use Rattle.hack_load.specs.Contexts.{ContextRecord, package_at, is_private_at}
use Rattle.hack_base.specs.Notes.{Note}
use Rattle.hack_planner.specs.declared.fault.PackagesFault.{PackagesFault}
use Rattle.hack_planner.specs.Members.{Member, IsPackageList}
use Rattle.hack_planner.specs.MemberNotes.{AreListNotes}
use Rattle.hack_planner.specs.PackagesView.{IsListFault}

-- the package at a place, as a member
abbrev pub member_at : ContextRecord → ℕ → Option Member
member_at cx id = option_map (λ p. record { place = id; pkg = p; is_private = is_private_at cx id }) (package_at cx id)

-- the members of the workspace, in their order
abbrev pub members_in : ContextRecord → List Member
members_in cx = filter_map (member_at cx) cx.metadata.workspace_members

-- the name of the current package
abbrev pub current_name : ContextRecord → Option Name
current_name cx =
    option_and_then (λ id. option_map (λ p. p.name) (package_at cx id)) cx.current_package

-- the packages that the call runs on
abbrev pub AreChosen : ContextRecord → List ℕ → Type 0
AreChosen cx places = IsPackageList cx.args (current_name cx) (members_in cx) places

-- whether exactly one package is left after exclusions, and the notices about the packages that the call runs on
abbrev pub AreChoiceNotes : ContextRecord → Bool → List Note → Type 0
AreChoiceNotes cx single notes =
    AreListNotes cx.args (current_name cx) cx.metadata.workspace_root (members_in cx) single notes

-- why these packages aren't known
abbrev pub IsChoiceFault : ContextRecord → PackagesFault → Type 0
IsChoiceFault cx e = IsListFault cx.args (members_in cx) e
