-- The lockfile's copy, made after a look.
use Rattle.std.proofs.Common.{◌⊎◌, ◌∙◌, [], ℕ, Bool, Result, false, inl, inr, true}
use Rattle.std.specs.Prelude.{Ok, Err}
use Rattle.hack_base.specs.Counters.{GrowsBy}
use Rattle.hack_base.specs.Names.{Name}
use Rattle.hack_base.specs.Streams.{Stream}
use Rattle.hack_files.specs.TraceLaws.{makes_more}
use Rattle.hack_files.specs.View.{FilesView}
use Rattle.hack_files.specs.declared.fs.Files.{Ghosts as Filing}
use Rattle.hack_places.specs.CallPlaces.{PlacesAt}
use Rattle.hack_places.specs.FileLooks.{Unchanged}
use Rattle.hack_places.proofs.CountLemmas.{grows_then}
use Rattle.hack_term.specs.declared.term.Coloring.{Coloring}
use Rattle.hack_recovery.specs.Restoring.{EndsCopying, FailsToCopy}
use Rattle.hack_recovery.specs.Telling.{SaysFailed}
use Rattle.hack_recovery.specs.declared.fault.CallFault.{CallFault}
use Rattle.hack_recovery.proofs.CountLemmas.{may_then}

module _ {F L : Type 0} (f : Filing F) (l : Filing L) (places : PlacesAt) (x y z first last : ℕ) (none : GrowsBy 0 x y) where
  fails_then : (path : Name) → FailsToCopy f l places path y z first last → FailsToCopy f l places path x z first last
  fails_then path (inl (is, same, one, unseen)) = inl (is, grows_then 0 x y z none same, one, unseen)
  fails_then path (inr (one, same, which)) = inr (grows_then 1 x y z none one, same, which)

  -- how it ends is as if there had been no look, where that didn't fail
  pub ends_then : (coloring : Coloring) (r : Result Bool CallFault) (old new : Stream) → EndsCopying f l places coloring y z first last r old new → EndsCopying f l places coloring x z first last r old new
  ends_then coloring (Ok true) old new (same, alone, silent) = (grows_then 0 x y z none same, alone, silent)
  ends_then coloring (Ok false) old new (path, fails, said) = (path, fails_then path fails, said)
  ends_then coloring (Err fault) old new (inl (path, fails), same) = (inl (path, fails_then path fails), same)
  ends_then coloring (Err fault) old new (inr (some, alone), same) = (inr (may_then x y z none some, alone), same)

-- a call at this path failed, as is said
pub ends_failed : {F L : Type 0} (f : Filing F) (l : Filing L) (places : PlacesAt) (before now first last : ℕ) (coloring : Coloring) (path : Name) (r : Result Bool CallFault) (old new : Stream) → FailsToCopy f l places path before now first last → SaysFailed coloring path r old new
    → EndsCopying f l places coloring before now first last r old new
ends_failed f l places before now first last coloring path (Ok true) old new fails said = absurd said
ends_failed f l places before now first last coloring path (Ok false) old new fails said = (path, fails, said)
ends_failed f l places before now first last coloring path (Err fault) old new fails said = (inl (path, fails), said)

-- nothing is changed after a look that changed nothing
unchanged_then : (tells whole : Type 0) (old mid new : FilesView) → Unchanged tells whole old mid → Unchanged tells whole mid new → Unchanged tells whole old new
unchanged_then tells whole old mid new first then = record {
  same = λ t q. then.same t q ∙ first.same t q;
  untraced = λ w. makes_more [] [] _ _ _ _ _ _ (first.untraced w) (then.untraced w);
}

-- so it is where a copy isn't made, unless its write was refused
pub undone_then : (tells whole Refused : Type 0) (old mid new : FilesView) → Unchanged tells whole old mid → Unchanged tells whole mid new ⊎ Refused → Unchanged tells whole old new ⊎ Refused
undone_then tells whole Refused old mid new first (inl then) = inl (unchanged_then tells whole old mid new first then)
undone_then tells whole Refused old mid new first (inr refused) = inr refused
