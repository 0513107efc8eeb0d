-- What is said of a lockfile and its copy.
use Rattle.std.proofs.Common.{◌≡◌, ◌∷◌, [], ℕ, Bool, List, false, inl, inr, true}
use Rattle.std.specs.Prelude.{Err, Ok, Result}
use Rattle.hack_base.specs.Counters.{GrowsBy}
use Rattle.hack_base.specs.Names.{Name}
use Rattle.hack_base.specs.Streams.{Stream}
use Rattle.hack_files.specs.View.{FilesView}
use Rattle.hack_files.specs.declared.fs.Files.{Ghosts as Filing}
use Rattle.hack_files.specs.FailedCalls.{LookFailed}
use Rattle.hack_places.proofs.CountLemmas.{grows_then}
use Rattle.hack_term.specs.declared.term.Coloring.{Coloring}
use Rattle.hack_recovery.specs.FailedFiles.{OneFailedAt}
use Rattle.hack_recovery.specs.Telling.{SaysFailed, SaysIfNotDone, SaysIfOther, SaysOfLockfile, SaysUnsettled}
use Rattle.hack_recovery.specs.declared.fault.CallFault.{CallFault}

-- a look at this path failed
pub looked_one : {F : Type 0} (f : Filing F) (path : Name) (old new : F) → GrowsBy 1 (f.failed old) (f.failed new) → LookFailed f path old new → OneFailedAt f path (f.failed old) (f.failed new)
looked_one f path old new counted h = record { counted = counted; cause = inl (record { before = old; after = new; unseen = h.unseen }) }

-- a write of this path was refused
pub refused_one : {F : Type 0} (f : Filing F) (path : Name) (start : ℕ) (old new : F) → GrowsBy 0 start (f.failed old) → GrowsBy 1 (f.failed old) (f.failed new) → f.refuses old new (path ∷ []) → OneFailedAt f path start (f.failed new)
refused_one f path start old new none counted h = record { counted = grows_then 1 start (f.failed old) (f.failed new) none counted; cause = inr (record { before = old; after = new; refused = h }) }

-- where it isn't done, that was said
pub if_not_done : (one : Type 0) (coloring : Coloring) (path : Name) (came : Result Bool CallFault) (old new : Stream) → one → SaysFailed coloring path came old new → SaysIfNotDone one coloring path came old new
if_not_done one coloring path (Ok true) old new h said = absurd said
if_not_done one coloring path (Ok false) old new h said = (h, said)
if_not_done one coloring path (Err fault) old new h said = (h, said)

-- the same of what follows from that
pub since_one : (one other : Type 0) (coloring : Coloring) (path : Name) (came : Result Bool CallFault) (old new : Stream) → (one → other) → SaysIfNotDone one coloring path came old new → SaysIfNotDone other coloring path came old new
since_one one other coloring path (Ok true) old new so said = said
since_one one other coloring path (Ok false) old new so said = (so said.0, said.1)
since_one one other coloring path (Err fault) old new so said = (so said.0, said.1)

module _ {F : Type 0} (f : Filing F) (by_guard : Bool) (coloring : Coloring) (dir path : Name) where
  pub of_lockfile : (bytes : List ℕ) (was now : FilesView) (came : Result Bool CallFault) (old new : Stream) → OneFailedAt f path was.failed now.failed → SaysFailed coloring path came old new → SaysOfLockfile f by_guard coloring dir path bytes was now came old new
  of_lockfile bytes was now (Ok true) old new one said = absurd said
  of_lockfile bytes was now (Ok false) old new one said = (one, said)
  of_lockfile bytes was now (Err fault) old new one said = (one, said)

  -- by a test of whether it is done
  pub undone : (bytes : List ℕ) (was now : FilesView) (done : Bool) (old new : Stream) → done ≡ false → SaysOfLockfile f by_guard coloring dir path bytes was now (Ok done) old new → SaysUnsettled f coloring path was.failed now.failed (Ok false) old new
  undone bytes was now true old new off said = cc
  undone bytes was now false old new off said = said

  pub done_so : (bytes : List ℕ) (was now : FilesView) (done : Bool) (old new : Stream) → done ≡ true → SaysOfLockfile f by_guard coloring dir path bytes was now (Ok done) old new → SaysIfOther by_guard coloring dir path f.tells (was.held path) bytes old new
  done_so bytes was now true old new on said = said
  done_so bytes was now false old new on said = cc
