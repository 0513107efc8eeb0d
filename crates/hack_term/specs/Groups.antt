-- Groups of lines in a log.
use Rattle.std.specs.Prelude.{◌≡◌, ℕ, List, [], codes, bytes_eq, string_bytes, if◌then◌else◌, Option, Some, None as Nothing}
use Rattle.hack_base.specs.Writes.{line}
use Rattle.hack_term.specs.Lines.{info_line}
use Rattle.hack_term.specs.declared.term.Coloring.{Coloring}
use Rattle.hack_term.specs.declared.log_group.LogGroup.{LogGroup}
use Rattle.hack_term.specs.declared.log_group.LogGroup.TheVariants.{None, GithubActions}
use Rattle.hack_term.specs.declared.log_group.LogGroupFault.{LogGroupFault}
use Rattle.hack_term.specs.declared.log_group.LogGroupFault.TheVariants.{Name, Memory}

-- the name of a kind of groups
abbrev pub group_name : LogGroup → List ℕ
group_name None = codes "none"
group_name GithubActions = codes "github-actions"

-- the text isn't the name of a kind of groups
abbrev pub IsNoGroup : List ℕ → Type 0
IsNoGroup text = (group : LogGroup) → text ≡ group_name group → ⊥

-- the kind of groups that a text names, if it names one
abbrev pub log_group_of : List ℕ → Option LogGroup
log_group_of text =
    if bytes_eq text (codes "none") then Some None
    else if bytes_eq text (codes "github-actions") then Some GithubActions
    else Nothing

-- why a text is refused
abbrev pub RefusesGroup : List ℕ → LogGroupFault → Type 0
RefusesGroup text (Name s) = (string_bytes s ≡ text) × IsNoGroup text
RefusesGroup text Memory = Unit {0}

-- the line that opens a group, on `out`
abbrev pub opening_line : LogGroup → List ℕ → List ℕ
opening_line None text = []
opening_line GithubActions text = line (codes "::group::") text

-- the line that replaces it where lines aren't grouped, on `err`
abbrev pub message_line : LogGroup → Coloring → List ℕ → List ℕ
message_line None coloring text = info_line coloring text
message_line GithubActions coloring text = []

-- the line that ends a group
abbrev pub closing_line : List ℕ
closing_line = codes "::endgroup::\n"

-- where the text of a group goes: what belongs to `out`, or to `err` where lines aren't grouped
abbrev pub on_screen : {A : Type 0} → LogGroup → A → A → A
on_screen None out err = err
on_screen GithubActions out err = out
