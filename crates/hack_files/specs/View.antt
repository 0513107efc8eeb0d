-- Files as clauses see them.
use Rattle.std.specs.Prelude.{ℕ}
use Rattle.hack_files.specs.Files.{Contents, Trace}
use Rattle.hack_files.specs.declared.fs.Files.{Ghosts as Filing}

-- files: what their paths hold, the changes so far, and how many of their calls failed
pub record FilesView : Type 0 where
  pub held : Contents
  pub trace : Trace
  pub failed : ℕ

abbrev pub files_view : {F : Type 0} → Filing F → F → FilesView
files_view f files = record { held = f.bytes_at files; trace = f.trace files; failed = f.failed files }
