-- How files come to be what a call is performed over.
use Rattle.std.specs.Prelude.{◌≡◌, Ok, true}
use Rattle.hack_files.specs.View.{FilesView}
use Rattle.hack_files.specs.declared.fs.Files.{Ghosts as Filing}
use Rattle.hack_places.specs.CallPlaces.{PlacesAt}
use Rattle.hack_places.specs.FileLooks.{Unchanged}
use Rattle.hack_recovery.specs.Restoring.{KeepsCopy, TakesBack}
use Rattle.hack_recovery.specs.Scenes.{Scene}
use Rattle.hack_words.specs.declared.cli.env.Env.{Env}

-- the files, and the lockfiles
abbrev pub Both : Type 0
Both = FilesView × FilesView

abbrev pub both_in : Scene → Both
both_in scene = (scene.files, scene.lockfiles)

-- how files come to be what a call with such places is performed over: they are only looked at, what an
-- interrupted call left is taken back, the lockfile is copied, or one of these follows the other
pub data GetReady {F L : Type 0} (f : Filing F) (l : Filing L) (env : Env) (Own : PlacesAt → Type 0) : Both → Both → Type 0 where
  looked_at : {old new : Both} → Unchanged f.tells f.whole old.0 new.0 → new.1 ≡ old.1 → GetReady f l env Own old new
  taken_back : {old new : Both} → (places : PlacesAt) → Own places → (first last : Scene) → TakesBack f l env places first last (Ok true) → both_in first ≡ old → both_in last ≡ new → GetReady f l env Own old new
  copied : {old new : Both} → (places : PlacesAt) → Own places → (first last : Scene) → KeepsCopy f l places (Ok true) first last → both_in first ≡ old → both_in last ≡ new → GetReady f l env Own old new
  further : {old new : Both} → (mid : Both) → GetReady f l env Own old mid → GetReady f l env Own mid new → GetReady f l env Own old new
