-- What is started side by side, through the steps of a call.
use Rattle.std.proofs.Common.{◌≡◌, ◌⊎◌, ◌∙◌, Bool, List, ap, false, inl, inr, refl, subst, sym, true}
use Rattle.std.specs.Prelude.{not}
use Rattle.hack_base.specs.Names.{Name}
use Rattle.hack_base.specs.Streams.{Stream}
use Rattle.hack_files.specs.Files.{Contents}
use Rattle.hack_files.specs.View.{FilesView}
use Rattle.hack_files.specs.declared.fs.Files.{Ghosts as Filing}
use Rattle.hack_files.specs.TraceLaws.{makes_none}
use Rattle.hack_process.specs.Calls.{Call}
use Rattle.hack_run.specs.Lanes.{IsLaneCall}
use Rattle.hack_starts.specs.Events.{Event}
use Rattle.hack_term.specs.declared.term.Term.{Term}
use Rattle.hack_words.specs.declared.cli.env.Env.{Env}
use Rattle.hack_places.specs.CallPlaces.{PlacesAt}
use Rattle.hack_words.specs.Edits.{is_restore}
use Rattle.hack_recovery.specs.CallCourses.{IsCopyEnded, IsCopyTold, IsCopyToldIf, IsJournalClosed}
use Rattle.hack_recovery.specs.CallCourses.IsCopyDropped.{gone, refused}
use Rattle.hack_recovery.specs.CallCourses.IsCopyTold.{absent, there, unsure}
use Rattle.hack_recovery.specs.CallCourses.IsJournalClosed.{ended, stays, unseen}
use Rattle.hack_recovery.specs.LaneCalls.{AsksToRestore, CallsInLanes, over_journal, plain, unperformed}
use Rattle.hack_recovery.specs.Ready.{Both, GetReady}
use Rattle.hack_recovery.specs.Ready.GetReady.{copied, further, looked_at, taken_back}
use Rattle.hack_recovery.specs.Telling.{Warns}
use Rattle.hack_words.specs.declared.cli.edits.Edits.{Edits}
use Rattle.hack_words.specs.declared.cli.edits.Edits.TheVariants as edits

pub restore_is : (does : Edits) → is_restore does ≡ true → does ≡ edits.Restore
restore_is edits.None on = cc
restore_is edits.Temporary on = cc
restore_is edits.Permanent on = cc
restore_is edits.Restore on = refl

pub ready_now : {F L : Type 0} (f : Filing F) (l : Filing L) (env : Env) (Own : PlacesAt → Type 0) (both : Both) → GetReady f l env Own both both
ready_now f l env Own both = looked_at (record { same = λ t q. refl; untraced = λ w. makes_none _ _ }) refl

-- where the end of a journal reported no error, none was reported before
warned_quiet : (text : Name) (was now : Term) (err now_err : Stream) → Warns text was now err now_err → now.error ≡ false → was.error ≡ false
warned_quiet text was now err now_err warned quiet = ap (λ (t : Term). t.error) (sym warned.0) ∙ quiet

module _ {F : Type 0} (f : Filing F) (copy : Name) (old new : FilesView) (was now : Term) (err now_err : Stream) where
  told_quiet : IsCopyTold f copy old new was now err now_err → now.error ≡ false → was.error ≡ false
  told_quiet (there warns counted has same) quiet = warned_quiet _ was now err now_err warns quiet
  told_quiet (unsure warns counted seen same) quiet = warned_quiet _ was now err now_err warns quiet
  told_quiet (absent same silent counted none kept) quiet = ap (λ (t : Term). t.error) (sym same) ∙ quiet

  told_if_quiet : (unwritten : Bool) → IsCopyToldIf f unwritten copy old new was now err now_err → now.error ≡ false → was.error ≡ false
  told_if_quiet true told quiet = told_quiet told quiet
  told_if_quiet false told quiet = ap (λ (t : Term). t.error) (sym told.1) ∙ quiet

  ended_quiet : (unwritten : Bool) → IsCopyEnded f unwritten copy old new was now err now_err → now.error ≡ false → was.error ≡ false
  ended_quiet true told quiet = told_quiet told quiet
  ended_quiet false (gone same silent counted none) quiet = ap (λ (t : Term). t.error) (sym same) ∙ quiet
  ended_quiet false (refused warns counted cause) quiet = warned_quiet _ was now err now_err warns quiet

pub closed_quiet : {F : Type 0} (f : Filing F) (places : PlacesAt) (unwritten : Bool) (old new : FilesView) (was now : Term) (err now_err : Stream) → IsJournalClosed f places unwritten old new was now err now_err → now.error ≡ false → was.error ≡ false
closed_quiet f places unwritten old new was now err now_err (ended mid counted journal same told) quiet = ended_quiet f places.copy mid new was now err now_err unwritten told quiet
closed_quiet f places unwritten old new was now err now_err (stays mid term said warns counted journal same told) quiet = warned_quiet _ was term err said warns (told_if_quiet f places.copy mid new term now said now_err unwritten told quiet)
closed_quiet f places unwritten old new was now err now_err (unseen mid term said warns counted journal same told) quiet = warned_quiet _ was term err said warns (told_if_quiet f places.copy mid new term now said now_err unwritten told quiet)

module _ {S : Type 0} (did : List Event → S → S → Type 0) (course : S → S → Type 0) (talks : Type 0) (calls : S → List Call) where
  -- what `run` promises of lanes, where no error is reported and where one is
  pub lanes_by_error : (tells : Type 0) (words : List Name) (env : Env) (held : Contents) (old new : S) (error : Bool) → (error ≡ false → IsLaneCall did course talks calls true tells words env held old new)
      → IsLaneCall did course talks calls false tells words env held old new → IsLaneCall did course talks calls (not error) tells words env held old new
  lanes_by_error tells words env held old new false all some = all refl
  lanes_by_error tells words env held old new true all some = some

  module _ {F L : Type 0} (f : Filing F) (l : Filing L) where
    -- a call that is performed once files are ready, or isn't
    pub in_lanes_or_not : (restores : Type 0) (Own : PlacesAt → Type 0) (done : Bool) (words : List Name) (env : Env) (files at : Both) (old new : S) (test off : Bool) → test ≡ off
        → (test ≡ true → (done ≡ false) ⊎ restores) → (test ≡ true → new ≡ old) → GetReady f l env Own files at
        → (test ≡ false → IsLaneCall did course talks calls done f.tells words env at.0.held old new) → CallsInLanes f l did course talks calls restores Own done words env files old new
    in_lanes_or_not restores Own done words env files at old new test true is why same ready ran = unperformed (why is) (same is)
    in_lanes_or_not restores Own done words env files at old new test false is why same ready ran = plain at ready (ran is)

    -- a call whose files get ready first
    pub behind : (restores : Type 0) (Own : PlacesAt → Type 0) (done : Bool) (words : List Name) (env : Env) (files mid : Both) (old new : S) → GetReady f l env Own files mid
        → CallsInLanes f l did course talks calls restores Own done words env mid old new → CallsInLanes f l did course talks calls restores Own done words env files old new
    behind restores Own done words env files mid old new ready (unperformed why same) = unperformed why same
    behind restores Own done words env files mid old new ready (plain at more ran) = plain at (further mid ready more) ran
    behind restores Own done words env files mid old new ready (over_journal at places own more ran) = over_journal at places own (further mid ready more) ran

    ready_by : (Mine Own : PlacesAt → Type 0) (env : Env) → ((places : PlacesAt) → Mine places → Own places) → (old new : Both) → GetReady f l env Mine old new → GetReady f l env Own old new
    ready_by Mine Own env turn old new (looked_at same locked) = looked_at same locked
    ready_by Mine Own env turn old new (taken_back places mine first last back was is) = taken_back places (turn places mine) first last back was is
    ready_by Mine Own env turn old new (copied places mine first last kept was is) = copied places (turn places mine) first last kept was is
    ready_by Mine Own env turn old new (further mid ready more) = further mid (ready_by Mine Own env turn old mid ready) (ready_by Mine Own env turn mid new more)

    -- what a call that is to restore asks for, and whose the places are
    pub asked_to : (one other : Type 0) (Mine Own : PlacesAt → Type 0) (done : Bool) (words : List Name) (env : Env) (files : Both) (old new : S) → (one → other) → ((places : PlacesAt) → Mine places → Own places)
        → CallsInLanes f l did course talks calls one Mine done words env files old new → CallsInLanes f l did course talks calls other Own done words env files old new
    asked_to one other Mine Own done words env files old new turn own (unperformed (inl cut) same) = unperformed (inl cut) same
    asked_to one other Mine Own done words env files old new turn own (unperformed (inr is) same) = unperformed (inr (turn is)) same
    asked_to one other Mine Own done words env files old new turn own (plain at ready ran) = plain at (ready_by Mine Own env own files at ready) ran
    asked_to one other Mine Own done words env files old new turn own (over_journal at places mine ready ran) = over_journal at places (own places mine) (ready_by Mine Own env own files at ready) ran

    -- a call whose arguments, environment and caller are known by other names
    pub lanes_known : (Own : List Name → Env → PlacesAt → Type 0) (ws vs : List Name) (d e : Env) (done : Bool) (files : Both) (old first new : S) → ws ≡ vs → d ≡ e → old ≡ first
        → CallsInLanes f l did course talks calls (AsksToRestore d ws) (Own ws d) done ws d files old new → CallsInLanes f l did course talks calls (AsksToRestore e vs) (Own vs e) done vs e files first new
    lanes_known Own ws vs d e done files old first new words env caller h =
        subst (λ (x : S). CallsInLanes f l did course talks calls (AsksToRestore e vs) (Own vs e) done vs e files x new) caller
        (subst (λ (x : Env). CallsInLanes f l did course talks calls (AsksToRestore x vs) (Own vs x) done vs x files old new) env
        (subst (λ (x : List Name). CallsInLanes f l did course talks calls (AsksToRestore d x) (Own x d) done x d files old new) words h))
