-- The course of a call whose arguments, environment and scene are known by other names.
use Rattle.std.proofs.Common.{◌≡◌, ℕ, Bool, true, false, List, Option, refl, subst, sym}
use Rattle.std.specs.Prelude.{Ok}
use Rattle.hack_base.specs.Counters.{GrowsBy}
use Rattle.hack_base.specs.Names.{Name}
use Rattle.hack_base.specs.Streams.{Stream}
use Rattle.hack_base.specs.declared.writes.Sink.{Ghosts as Taking}
use Rattle.hack_files.specs.Files.{Contents, KeepsAllBut}
use Rattle.hack_files.specs.declared.fs.Files.{Ghosts as Filing}
use Rattle.hack_journal.specs.Rows.{Spot}
use Rattle.hack_journal.specs.declared.unkept.Unkept.{Ghosts as Noting}
use Rattle.hack_process.specs.Calls.{Call}
use Rattle.hack_files.specs.View.{FilesView}
use Rattle.hack_run.proofs.LastingLemmas.{leaves_by}
use Rattle.hack_run.specs.LastingEdits.{LeavesAtMostEdits}
use Rattle.hack_session.specs.StepOutput.{Streams, streams}
use Rattle.hack_term.specs.declared.term.Term.{Term}
use Rattle.hack_words.specs.declared.cli.env.Env.{Env}
use Rattle.hack_words.specs.Edits.{is_change, is_restore}
use Rattle.hack_recovery.specs.Admission.{IsAdmitted}
use Rattle.hack_recovery.specs.CallCourses.{Begins, CannotSee, IsCallCourse, Journals, PerformsUnjournaled}
use Rattle.hack_recovery.specs.CallCourses.IsCallCourse.{blind, unrestored, warned, without_journal}
use Rattle.hack_places.specs.CallPlaces.{PlacesAt}
use Rattle.hack_recovery.specs.FailedFiles.{RefusesThese}
use Rattle.hack_recovery.specs.GuardEvents.{GuardsView}
use Rattle.hack_recovery.specs.LockEvents.{LocksView}
use Rattle.hack_recovery.specs.Scenes.{Scene, Untouched, scene_with}
use Rattle.hack_recovery.specs.Telling.{SaysStanding, SaysUnrestored, SaysUnseen, SaysUnsure}
use Rattle.hack_recovery.specs.declared.admit.Standing.{Standing}
use Rattle.hack_recovery.specs.declared.admit.Way.TheVariants.{Plain}
use Rattle.hack_words.specs.declared.cli.edits.Edits.{Edits}

-- a scene before any call was made, by its parts
abbrev scene : FilesView → FilesView → ℕ → LocksView → GuardsView → List Call → Option (List ℕ) → Term → Bool → Streams → Scene
scene files lockfiles unkept locks guards calls out term fails streams = record {
  files = files;
  lockfiles = lockfiles;
  unkept = unkept;
  locks = locks;
  guards = guards;
  host = record { calls = calls; out = out; term = term; fails = fails };
  streams = streams;
}

pub course-known : {F L U J : Type 0} (f : Filing F) (l : Filing L) (u : Noting U) (j : Filing J) (talks records watched : Type 0) (real : Name → Name) (ws vs : List Name) (e d : Env) (files lockfiles : FilesView) (unkept : ℕ) (locks : LocksView) (guards : GuardsView)
    (calls made : List Call) (o p : Option (List ℕ)) (t s : Term) (fails : Bool) (k q : Streams) (new : Scene)
    → ws ≡ vs → e ≡ d → calls ≡ made → o ≡ p → t ≡ s → k ≡ q
    → IsCallCourse f l u j talks records watched real ws e (scene files lockfiles unkept locks guards calls o t fails k) new
    → IsCallCourse f l u j talks records watched real vs d (scene files lockfiles unkept locks guards made p s fails q) new
course-known f l u j talks records watched real ws vs e d files lockfiles unkept locks guards calls made o p t s fails k q new words env called out term said h =
    subst (λ (x : Streams). IsCallCourse f l u j talks records watched real vs d (scene files lockfiles unkept locks guards made p s fails x) new) said
    (subst (λ (x : Term). IsCallCourse f l u j talks records watched real vs d (scene files lockfiles unkept locks guards made p x fails k) new) term
    (subst (λ (x : Option (List ℕ)). IsCallCourse f l u j talks records watched real vs d (scene files lockfiles unkept locks guards made x t fails k) new) out
    (subst (λ (x : List Call). IsCallCourse f l u j talks records watched real vs d (scene files lockfiles unkept locks guards x o t fails k) new) called
    (subst (λ (x : Env). IsCallCourse f l u j talks records watched real vs x (scene files lockfiles unkept locks guards calls o t fails k) new) env
    (subst (λ (x : List Name). IsCallCourse f l u j talks records watched real x e (scene files lockfiles unkept locks guards calls o t fails k) new) words h)))))

-- a call that goes on plainly: one that is to restore does nothing but say so, and any other is performed
pub plain_course : {F L U J : Type 0} (f : Filing F) (l : Filing L) (u : Noting U) (j : Filing J) (talks records watched : Type 0) (real : Name → Name) (words : List Name) (env : Env) (does : Edits) (places : PlacesAt) (standing : Standing) (left restores : Bool) (old at new : Scene)
    → is_restore does ≡ restores → Begins f.tells records real words env does places left old.files → IsAdmitted records does places.folder left old.locks at.locks (Ok (Plain standing)) → Untouched f.tells f.whole old at → GrowsBy 0 old.files.failed at.files.failed
    → at.host.term ≡ old.host.term → at.streams ≡ old.streams → (is_restore does ≡ true → (new ≡ scene_with at.files new.host.term new.streams.err at) × SaysUnrestored env.by_guard left old.host.term new.host.term old.streams.err new.streams.err)
    → (is_restore does ≡ false → (term : Term) × (err : Stream) × SaysStanding standing old.host.term term old.streams.err err × PerformsUnjournaled f talks words env (scene_with at.files term err at) new) → IsCallCourse f l u j talks records watched real words env old new
plain_course f l u j talks records watched real words env does places standing left true old at new is begins admitted untouched counted term streams same ran =
    let ended : Scene → Type 0 = λ (x : Scene). Untouched f.tells f.whole old x × GrowsBy 0 old.files.failed x.files.failed × IsAdmitted records does places.folder left old.locks x.locks (Ok (Plain standing)) in
    let still = subst ended (sym (same is).0) (
      record {
        files = untouched.files;
        lockfiles = untouched.lockfiles;
        unkept = untouched.unkept;
        guards = untouched.guards;
        calls = untouched.calls;
        out = untouched.out;
        stdout = untouched.stdout;
        fails = untouched.fails;
      },
      counted,
      admitted,
    ) in
    unrestored does places standing (record { left = left; begins = begins; admitted = still.2; untouched = still.0; counted = still.1 }) is (same is).1
plain_course f l u j talks records watched real words env does places standing left false old at new is begins admitted untouched counted term streams same ran =
    let r = ran is in
    without_journal does places standing at r.0 r.1 (record { left = left; begins = begins; admitted = admitted; untouched = untouched; counted = counted }) is term streams r.2 r.3

-- a call in which a look failed: one that would change manifests ends, and any other is performed
-- after a warning
pub unseen_course : {F L U J : Type 0} (f : Filing F) (l : Filing L) (u : Noting U) (j : Filing J) (talks records watched : Type 0) (real : Name → Name) (words : List Name) (env : Env) (does : Edits) (changes : Bool) (old new : Scene) → is_change does ≡ changes
    → (is_change does ≡ true → (cannot : CannotSee f records real words env does old new) × (new.host.term ≡ record old.host.term { error = true }) × SaysUnseen old.host.term.coloring cannot.looked old.streams.err new.streams.err)
    → (is_change does ≡ false → (at : Scene) × (cannot : CannotSee f records real words env does old at) × (at.host.term ≡ record old.host.term { warn = true }) × SaysUnsure old.host.term.coloring cannot.looked old.streams.err at.streams.err × PerformsUnjournaled f talks words env at new)
    → IsCallCourse f l u j talks records watched real words env old new
unseen_course f l u j talks records watched real words env does true old new is ended ran = let e = ended is in blind does e.0 is e.1 e.2
unseen_course f l u j talks records watched real words env does false old new is ended ran = let r = ran is in warned does r.0 r.1 is r.2 r.3 r.4

-- a call with a journal at a spot that is known by another name
pub journals_at : {F L U J : Type 0} (f : Filing F) (l : Filing L) (u : Noting U) (j : Filing J) (talks : Type 0) (words : List Name) (env : Env) (s t : Spot) (failed : ℕ) (old new : Scene) → s ≡ t → Journals f l u j talks words env s failed old new → Journals f l u j talks words env t failed old new
journals_at f l u j talks words env s t failed old new is h = subst (λ (x : Spot). Journals f l u j talks words env x failed old new) is h

-- two streams that are known by other names
pub same_streams : {O E : Type 0} (o : Taking O) (e : Taking E) (a b : O) (x y : E) → a ≡ b → x ≡ y → streams o e a x ≡ streams o e b y
same_streams o e a b x y p q = rw (p, q) refl

-- a path that isn't as it was is one whose own write such files refused
pub spoilt_by : {F : Type 0} (f : Filing F) (a b : F) (tells : Type 0) (old new : Contents) → KeepsAllBut (f.refuses a b) tells old new → KeepsAllBut (RefusesThese f) tells old new
spoilt_by f a b tells old new h = record { spoilt = h.spoilt; refused = record { before = a; after = b; refused = h.refused }; others = h.others }

-- the same of what is left in files
pub lasting_by : {F : Type 0} (f : Filing F) (a b : F) (tells talks : Type 0) (words : List Name) (env : Env) (calls : List Call) (old new : Contents) → LeavesAtMostEdits (f.refuses a b) tells talks words env calls old new → LeavesAtMostEdits (RefusesThese f) tells talks words env calls old new
lasting_by f a b tells talks words env calls old new h = leaves_by (f.refuses a b) (RefusesThese f) tells talks words env calls old new (λ paths refused. record { before = a; after = b; refused = refused }) h
