-- What arguments do to manifests.
use Rattle.std.specs.Prelude.{◌||◌, Bool, true, false, if◌then◌else◌}
use Rattle.hack_words.specs.declared.cli.args.Args.{Args}
use Rattle.hack_words.specs.declared.cli.edits.Edits.{Edits}
use Rattle.hack_words.specs.declared.cli.edits.Edits.TheVariants as edits

-- what arguments do to manifests: `--restore` restores what an interrupted call left,
-- `--remove-dev-deps` edits them permanently, `--no-dev-deps` and `--no-private` edit them and bring
-- them back, and all others leave them
abbrev pub edits_asked : Args → Edits
edits_asked args = if args.restore then edits.Restore else (if args.remove_dev_deps then edits.Permanent else (if args.no_dev_deps || args.no_private then edits.Temporary else edits.None))

-- a call edits manifests, permanently or not
abbrev pub is_edit : Edits → Bool
is_edit edits.None = false
is_edit edits.Temporary = true
is_edit edits.Permanent = true
is_edit edits.Restore = false

-- a call restores what an interrupted one left, and does nothing else
abbrev pub is_restore : Edits → Bool
is_restore edits.None = false
is_restore edits.Temporary = false
is_restore edits.Permanent = false
is_restore edits.Restore = true

-- a call changes manifests, by an edit or by restoring them
abbrev pub is_change : Edits → Bool
is_change does = is_edit does || is_restore does
