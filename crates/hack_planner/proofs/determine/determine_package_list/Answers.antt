use Rattle.std.proofs.Common.{◌≡◌, ◌∙◌, ◌⊎◌, IfOk, IfErr, List, map, ap, subst, Option}
use Rattle.std.specs.Prelude.{option_copied}
use Rattle.hack_base.specs.Names.{Name}
use Rattle.hack_load.specs.ContextView.{context_view}
use Rattle.hack_metadata.specs.declared.metadata.resolve.PackageId.{PackageId}
use Rattle.hack_base.specs.Notes.{note_of}
use Rattle.hack_words.specs.declared.cli.args.Args.{Args}
use Rattle.hack_planner.specs.declared.fault.PackagesFault.{PackagesFault}
use Rattle.hack_planner.specs.declared.fault.PackagesFault.TheVariants.{Memory}
use Rattle.hack_planner.specs.Members.{IsPackageList}
use Rattle.hack_planner.specs.Members as plain
use Rattle.hack_planner.specs.MemberNotes.{AreListNotes}
use Rattle.hack_planner.specs.MembersView.{member_view}
use Rattle.hack_planner.specs.PackagesView.{IsListFault}
use Rattle.hack_planner.specs.ContextMembers.{current_name, members_in}
use Rattle.hack_planner.proofs.determine.determine_package_list.Goals as goal

pub returns-clause-ok : goal.returns-clause-ok
returns-clause-ok c =
    let cx = context_view c.args.context.now in
    let F = λ (args : Args) (cur : Option Name) (ms : List plain.Member). IfOk c.choose_packages.result (λ answer. IsPackageList args cur ms (map (λ (id : PackageId). id.index) answer.0.ids.items)) in
    let cur = c.current_name-current.result in
    subst (λ x. F x (current_name cx) (members_in cx)) c.args-2.ensures
    (subst (λ x. F c.args-2.result.now x (members_in cx)) c.current_name-current.ensures
    (subst (λ x. F c.args-2.result.now (option_copied cur) x) (ap (map member_view) c.as_slice.ensures.value ∙ c.in_ok-members.ensures)
    c.choose_packages.ensures.ok))

pub returns-clause-notes : goal.returns-clause-notes
returns-clause-notes c =
    let cx = context_view c.args.context.now in
    let F = λ (args : Args) (cur : Option Name) (root : Name) (ms : List plain.Member). IfOk c.choose_packages.result (λ answer. AreListNotes args cur root ms answer.0.is_single (map note_of answer.1.items)) in
    let cur = c.current_name-current.result in
    subst (λ x. F x (current_name cx) cx.metadata.workspace_root (members_in cx)) c.args-2.ensures
    (subst (λ x. F c.args-2.result.now x cx.metadata.workspace_root (members_in cx)) c.current_name-current.ensures
    (subst (λ x. F c.args-2.result.now (option_copied cur) x (members_in cx)) c.workspace_root-root.ensures
    (subst (λ x. F c.args-2.result.now (option_copied cur) c.workspace_root-root.result.now x) (ap (map member_view) c.as_slice.ensures.value ∙ c.in_ok-members.ensures)
    c.choose_packages.ensures.notes)))

pub returns-clause-never : goal.returns-clause-never
returns-clause-never c =
    let cx = context_view c.args.context.now in
    let F = λ (args : Args) (ms : List plain.Member). IfOk c.choose_packages.result (λ answer. (e : PackagesFault) → ¬ IsListFault args ms e) in
    subst (λ x. F x (members_in cx)) c.args-2.ensures
    (subst (λ x. F c.args-2.result.now x) (ap (map member_view) c.as_slice.ensures.value ∙ c.in_ok-members.ensures)
    c.choose_packages.ensures.never)

pub returns-clause-err : goal.returns-clause-err
returns-clause-err c =
    let cx = context_view c.args.context.now in
    let F = λ (args : Args) (ms : List plain.Member). IfErr c.choose_packages.result (λ e. (e ≡ Memory) ⊎ IsListFault args ms e) in
    subst (λ x. F x (members_in cx)) c.args-2.ensures
    (subst (λ x. F c.args-2.result.now x) (ap (map member_view) c.as_slice.ensures.value ∙ c.in_ok-members.ensures)
    c.choose_packages.ensures.err)
