-- Which changes a call made to files, and in which order.
use Rattle.std.specs.Prelude.{◌≡◌, ◌||◌, ◌++◌, [], Bool, IfSome, List, MatchBool, length, map, string_bytes, true}
use Rattle.std.specs.Result.{is_err}
use Rattle.hack_base.specs.Names.{Name}
use Rattle.hack_base.specs.Notes.{Note}
use Rattle.hack_files.specs.Files.{Change, Contents, KeepsAll, Makes, after}
use Rattle.hack_files.specs.Restore.{AreSafe, Kept, Tried, is_kept, paths, write_of}
use Rattle.hack_files.specs.declared.fs.Files.{Ghosts as Filing}
use Rattle.hack_load.specs.Answers.{AreAnswers}
use Rattle.hack_load.specs.ContextOf.{IsContextFrom}
use Rattle.hack_load.specs.Contexts.{ContextRecord}
use Rattle.hack_load.specs.declared.answers.Answers.{Answers}
use Rattle.hack_prepare.specs.EditSteps.{KeepsInOrder}
use Rattle.hack_prepare.specs.PreparedView.{AreWritesIn, IsPreparedIn, IsTouchedIn, edits_in, wanted_in}
use Rattle.hack_process.specs.Calls.{Call}
use Rattle.hack_versions.specs.declared.rustup.Rustup.{Rustup}
use Rattle.hack_words.specs.ParseAnswers.{AnswersCommandLine as IsAnswer, around_of}
use Rattle.hack_words.specs.CommandLine.{ComesTo}
use Rattle.hack_words.specs.Start.{wants_rustup}
use Rattle.hack_words.specs.declared.cli.args.Args.{Args}
use Rattle.hack_words.specs.declared.cli.env.Env.{Env}
use Rattle.hack_words.specs.declared.cli.parse.Parsed.{Parsed}
use Rattle.hack_words.specs.declared.cli.parse.Parsed.TheVariants as parsed
use Rattle.hack_run.specs.CallTrace.{PerformsPlan, warned_by}
use Rattle.hack_run.specs.Questions.{AsksRustup}
use Rattle.hack_files.specs.View.{FilesView}
use Rattle.hack_run.specs.Worlds.{World, host_at, world_at}

-- Files that are kept after these edits, in the order of these and then the lockfile: each path once,
-- with what it held before them. They are all that the edits changed, and the lockfile where manifests
-- are edited, and no others than paths that are edited and the lockfile.
pub record AreKept (tells : Type 0) (cx : ContextRecord) (held : Contents) (edits : List Change)
    (files : List Kept) : Type 0 where
  pub order : KeepsInOrder (wanted_in cx).lockfile edits [] (paths files)
  pub safe : tells → AreSafe files held (after edits held)
  pub lockfile : tells → edits_in cx ≡ true → IfSome (after edits held (wanted_in cx).lockfile) (λ _.
      is_kept files (wanted_in cx).lockfile ≡ true)
  pub only : (path : Name) → is_kept files path ≡ true → IsTouchedIn cx path

-- they are written back
pub record UndoesEdits (tells : Type 0) (cx : ContextRecord) (held : Contents)
    (edits back : List Change) : Type 0 where
  pub files : List Kept
  pub writes : back ≡ map write_of files
  pub kept : AreKept tells cx held edits files

-- these files are kept after the edits, and each is written back, or that was refused
pub record TriesToUndo {F : Type 0} (f : Filing F) (cx : ContextRecord) (files : List Kept)
    (edits back : List Change) (loaded edited after : F) : Type 0 where
  pub spoilt : List Name
  pub refused : f.refuses edited after spoilt
  pub tried : Tried files back (length spoilt)
  pub kept : AreKept f.tells cx (f.bytes_at loaded) edits files

-- just one write was made for each manifest that the context has edited, and then these files were written
-- back so, unless edits stay
pub record TriesChanges {F : Type 0} (f : Filing F) (cx : ContextRecord) (files : List Kept)
    (loaded edited after : F) : Type 0 where
  pub edits : List Change
  pub back : List Change
  pub writes : AreWritesIn cx f.tells (f.bytes_at loaded) edits
  pub made : Makes edits (f.trace loaded) (f.trace edited) (f.bytes_at loaded) (f.bytes_at edited)
  pub undone : MatchBool cx.args.remove_dev_deps (back ≡ []) (TriesToUndo f cx files edits back loaded edited after)
  pub last : Makes back (f.trace edited) (f.trace after) (f.bytes_at edited) (f.bytes_at after)

-- Between the questions and the end manifests held their edits; whatever came of the plan, these files were written
-- back, and edits that stay stand at the end.
pub record EditsAndBack {F : Type 0} (f : Filing F) (cx : ContextRecord) (files : List Kept)
    (loaded edited after : F) : Type 0 where
  pub prepared : f.tells → IsPreparedIn cx (f.bytes_at loaded) (f.bytes_at edited)
  pub stay : cx.args.remove_dev_deps ≡ true → f.tells → KeepsAll (f.bytes_at edited) (f.bytes_at after)
  pub changes : f.whole → TriesChanges f cx files loaded edited after

-- all changes, in order: those of the questions, just one write for each manifest that the context
-- has edited, and those that undo these, unless edits stay
pub record AreChanges (tells : Type 0) (cx : ContextRecord) (asked : List Change)
    (old new : FilesView) : Type 0 where
  pub edits : List Change
  pub back : List Change
  pub edited : AreWritesIn cx tells old.held edits
  pub undone :
      MatchBool cx.args.remove_dev_deps (back ≡ []) (UndoesEdits tells cx old.held edits back)
  pub are : Makes (asked ++ (edits ++ back)) old.trace new.trace old.held new.held

-- the questions of these arguments were asked in order, a context was made of the answers and its
-- plan performed, and these are all changes
pub record LoadsAndChanges (tells : Type 0) (args : Args) (env : Env) (warned : Bool)
    (old new : World) : Type 0 where
  pub answers : Answers
  pub mid : List Call
  pub cx : ContextRecord
  pub asked : AreAnswers tells (λ stage asked. AreChanges tells cx asked old.files new.files)
      args env old.files.held old.files.failed new.files.failed old.host.calls mid answers
  pub context : IsContextFrom args answers cx
  pub performed : PerformsPlan true cx (string_bytes env.rustup)
      (is_err answers.cargo_version || warned) (host_at mid old.host) new.host

-- the changes of what a command line asks for: none where nothing is loaded
abbrev pub ObeysAndChanges : Type 0 → Parsed → Env → Bool → World → World → Type 0
ObeysAndChanges tells (parsed.Args args) env warned old new =
    LoadsAndChanges tells args env warned old new
ObeysAndChanges tells answer env warned old new =
    Makes [] old.files.trace new.files.trace old.files.held new.files.held

-- rustup was asked where an argument needs it, the command line was parsed, and the changes are those
-- of what it asks for
pub record IsChangeTrace (tells : Type 0) (words : List Name) (env : Env) (old new : World)
    : Type 0 where
  pub mid : List Call
  pub rustup : Rustup
  pub answer : Parsed
  pub notes : List Note
  pub told : AsksRustup (wants_rustup words) (string_bytes env.rustup) rustup old.host.calls mid
  pub read : IsAnswer (around_of env rustup) (ComesTo (around_of env rustup) words) answer notes
  pub obeyed : ObeysAndChanges tells answer env (warned_by answer notes old.host.term.warn)
      (world_at mid old) new
