-- The notices on edits.
use Rattle.std.specs.Prelude.{◌++◌, ◌&&◌, Bool, List, [], codes, if◌then◌else◌}
use Rattle.std.specs.List.{flat_map}
use Rattle.hack_base.specs.Names.{Name}
use Rattle.hack_base.specs.Notes.{Note, note_if}
use Rattle.hack_base.specs.declared.notice.NoticeKind.TheVariants.{Info}
use Rattle.hack_prepare.specs.Prepared.{MemberManifest, Wanted, drops_at_root, gone_manifests, is_alone}
use Rattle.hack_manifest.specs.LineRuns.{has_some}

-- the notice that development dependencies are removed from a manifest, if it is asked for
abbrev pub dev_note : Bool → Name → List Note
dev_note told path = note_if told Info (codes "removing dev-dependencies from " ++ path)

-- the notice that private crates are removed from a manifest, if it is asked for
abbrev pub private_note : Bool → Name → List Note
private_note told path = note_if told Info (codes "removing private crates from " ++ path)

-- the notices on a member's manifest
abbrev pub member_notes : Wanted → MemberManifest → List Note
member_notes w m = if is_alone w m then dev_note w.verbose m.path else []

-- those on the workspace's manifest, where development dependencies and these members are removed
abbrev pub edit_notes : Wanted → Bool → List Name → List Note
edit_notes w drops_dev private = dev_note (drops_dev && w.verbose) w.root ++ private_note (has_some private && w.verbose) w.root

-- the same, for all members
abbrev pub root_notes : Wanted → List MemberManifest → List Note
root_notes w ms = if w.no_private then edit_notes w (drops_at_root w ms) (gone_manifests w ms) else []

-- the notices on all edits
abbrev pub notes : Wanted → List MemberManifest → List Note
notes w ms = flat_map (member_notes w) ms ++ root_notes w ms
