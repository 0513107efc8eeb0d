-- What a list says.
use Rattle.std.proofs.Common.{◌≡◌, ◌⊎◌, ◌∙◌, ℕ, zero, suc, Bool, Err, IfOk, List, None, Ok, OnErr, OnOk, Option, Result, Some, ap, arith, false, filter, get_or, if◌then◌else◌, inl, inr, refl, subst, sym, true}
use Rattle.std.specs.Prelude.{◌<◌, All, IfErr, MatchBool, MatchOption}
use Rattle.std.specs.List.{flat_map}
use Rattle.std.specs.Io.KnownBytes.{Appends, Keeps}
use Rattle.std.proofs.lemmas.Bool.{cases_Bool}
use Rattle.hack_base.specs.WriteLaws.{failed-first, failed-later}
use Rattle.hack_base.specs.Names.{Name}
use Rattle.hack_base.specs.Notes.{Note}
use Rattle.hack_base.specs.Streams.{Stream, WritesAll, WritesText, stream_of}
use Rattle.hack_base.specs.Writes.{HasFailed, NoFewer}
use Rattle.hack_base.specs.declared.writes.Sink.{Ghosts as Taking}
use Rattle.hack_drive.specs.Shown.{note_lines}
use Rattle.hack_drive.specs.Warnings.{TellsNotes, after_notes}
use Rattle.hack_load.specs.Contexts.{ContextRecord}
use Rattle.hack_planner.specs.CallPlan.{IsPlanOf}
use Rattle.hack_planner.specs.declared.fault.PlanFault.{PlanFault}
use Rattle.hack_planner.specs.declared.fault.PlanFault.TheVariants as plan
use Rattle.hack_process.specs.Calls.{Call}
use Rattle.hack_process.specs.declared.fault.ProcessFault.{ProcessFault}
use Rattle.hack_plan.specs.View.{PlanView}
use Rattle.hack_session.specs.Internal.{IsWrittenStep}
use Rattle.hack_session.specs.ListLines.{is_failed, is_sent, lines_written}
use Rattle.hack_session.specs.declared.step.Handed.{Handed}
use Rattle.hack_session.specs.StepEffects.{Scene, State}
use Rattle.hack_session.specs.declared.starter.Starter.{Starter}
use Rattle.hack_term.specs.declared.term.Term.{Term}
use Rattle.hack_planner.specs.declared.stable.Stable.{Stable}
use Rattle.hack_run.specs.Handed.{is_hunt}
use Rattle.hack_run.specs.Internal.{EndsList, HandsOverAtMostOne, ListsSteps}
use Rattle.hack_run.specs.InternalExtensions.{MissesForACause}
use Rattle.hack_run.specs.Shown.{ComesOfList, HasNoPlan, IsListed, IsNoPlan, Looks, SaysList, SaysNoPlan, SaysPlan, SaysPlanNotes, SaysRuns, SaysStarved, SaysSteps, looks_of, reported_on}
use Rattle.hack_run.specs.declared.fault.RunFault.{RunFault}
use Rattle.hack_run.specs.declared.fault.RunFault.TheVariants as fault
use Rattle.hack_run.proofs.ShownLemmas.{looks_later, not_off}

-- a line is unwritten, and not for want of memory
abbrev pub IsUnwritten : Bool → Bool → ℕ → Type 0
IsUnwritten short flushed missed = (short ≡ false) × ((0 < missed) ⊎ (flushed ≡ false))

-- a step that isn't listed, or that passed
listed_one : (h : Handed) → IsWrittenStep h → IsListed h
listed_one h is = elim (cases_Bool (is_sent h)) [
  | inl sent ↦ inl sent
  | inr off ↦ inr (subst (λ (b : Bool). (if b then false else is_failed h.outcome) ≡ false) off is)
]

-- how a list ends where memory wasn't refused, by what is kept of its steps
abbrev ComesOfKept : Result (Unit {0}) RunFault → Looks → List Handed → State → Stream → Stream → Option ProcessFault → Type 0
ComesOfKept came now handed last old new kept = MatchOption kept (((came ≡ Err fault.Unlisted) × HasFailed old.failed new.failed) ⊎ ((came ≡ Ok tt) × All IsListed handed × (now.reported ≡ last.told))) (λ failed. came ≡ Err (fault.Process failed))

list_comes : (refused short flushed : Bool) (missed : ℕ) (kept : Option ProcessFault) (came : Result (Unit {0}) RunFault) (now : Looks) (handed : List Handed) (last : State) (old new : Stream) → kept ≡ last.kept → now.reported ≡ last.told
    → (IsUnwritten short flushed missed → HasFailed old.failed new.failed) → ((◌≡◌ {A = Result Bool PlanFault} (Ok refused) (Ok false)) × (missed ≡ 0) → All IsWrittenStep handed)
    → EndsList short (IsUnwritten short flushed missed) (Ok refused) kept came → ComesOfList came now handed last old new
list_comes true short flushed missed kept came now handed last old new is noted counted listed ends = inl ends
list_comes false true flushed missed kept came now handed last old new is noted counted listed ends = inl ends
list_comes false false flushed missed kept came now handed last old new is noted counted listed ends = inr (cause missed listed counted, subst (λ (o : Option ProcessFault). ComesOfKept came now handed last old new o) is (go kept ends))
  where
    whole : (n : ℕ) → ((◌≡◌ {A = Result Bool PlanFault} (Ok false) (Ok false)) × (n ≡ 0) → All IsWrittenStep handed) → ¬ IsUnwritten false flushed n → All IsListed handed
    whole zero listed none = λ k d lt. listed_one (get_or handed k d) (listed (refl, refl) k d lt)
    whole (suc n) listed none = absurd (none (refl, inl (omega arith)))

    go : (kept : Option ProcessFault) → EndsList false (IsUnwritten false flushed missed) (Ok false) kept came → ComesOfKept came now handed last old new kept
    go None (inl line) = inl (line.0, counted line.1)
    go None (inr fine) = inr (fine.0, whole missed listed fine.1, noted)
    go (Some failed) is = is

    cause : (n : ℕ) → ((◌≡◌ {A = Result Bool PlanFault} (Ok false) (Ok false)) × (n ≡ 0) → All IsWrittenStep handed) → (IsUnwritten false flushed n → HasFailed old.failed new.failed) → All IsListed handed ⊎ HasFailed old.failed new.failed
    cause zero listed counted = inl (λ k d lt. listed_one (get_or handed k d) (listed (refl, refl) k d lt))
    cause (suc n) listed counted = inr (counted (refl, inl (omega arith)))

-- a line is missing without want of memory only where the writer counted a failure
pub line_unwritten : (old mid new : Option ℕ) (short flushed : Bool) (missed : ℕ) → MissesForACause old mid false short 0 missed → MatchBool flushed (NoFewer mid new) (HasFailed mid new)
    → IsUnwritten short flushed missed → HasFailed old new
line_unwritten old mid new short false missed h last (full, why) = failed-later old mid new h.counted last
line_unwritten old mid new short true missed h last (full, inr unflushed) = absurd (cc)
line_unwritten old mid new short true missed h last (full, inl some) = elim h.cause [
  | inl none ↦ absurd (omega (arith, none, some))
  | inr cause ↦ elim cause [ inl is ↦ absurd (cc) | inr failed ↦ failed-first old mid new failed last ]
]

-- what a list says doesn't hang on where its lines go
said_elsewhere : (tells : Type 0) (cx : ContextRecord) (stable : Stable) (rustup : Name) (looks : Looks) (old new other : Scene) → other.calls ≡ new.calls → other.streams.err ≡ new.streams.err
    → SaysSteps tells true cx stable rustup looks old new → SaysSteps tells true cx stable rustup looks old other
said_elsewhere tells cx stable rustup looks old new other calls err h = record {
  course = h.course;
  notes = h.notes;
  fails = h.fails;
  warns = h.warns;
  planned = h.planned;
  begun = h.begun;
  first = h.first;
  told = h.told;
  last = h.last;
  does = h.does;
  stops = h.stops;
  calls = calls ∙ h.calls;
  out = λ off. not_off off;
  err = err ∙ h.err;
}

-- a list's steps were said, or there is no plan
pub list_said : (missed : ℕ) (short flushed : Bool) (refused : Result Bool PlanFault) (kept : Option ProcessFault) (came : Result (Unit {0}) RunFault) (tells : Type 0) (cx : ContextRecord) (stable : Stable) (rustup : Name) (looks now : Looks) (had has : Option (List ℕ)) (old mid new : Scene)
    → IfOk refused (λ r. ListsSteps ((refused ≡ Ok false) × (missed ≡ 0)) tells cx stable rustup kept now.reported looks had has old mid) → IfErr refused (HasNoPlan true cx stable rustup looks now old mid) → EndsList short (IsUnwritten short flushed missed) refused kept came → (IsUnwritten short flushed missed → HasFailed old.streams.out.failed new.streams.out.failed) → now ≡ reported_on now.reported looks → new.calls ≡ mid.calls → new.streams.err ≡ mid.streams.err
    → OnErr refused (Keeps old.streams.out.bytes new.streams.out.bytes) → ((text : List ℕ) → Appends had has text → WritesText text old.streams.out new.streams.out) → SaysNoPlan came true cx stable rustup looks now old new ⊎ SaysStarved came looks now old new ⊎ SaysList came tells cx stable rustup looks now old new
unfolding said_elsewhere
list_said missed short flushed (Ok r) kept came tells cx stable rustup looks now had has old mid new steps none ends counted same calls err out wrote =
    inr (inr (record { steps = said_elsewhere tells cx stable rustup looks old mid new calls err steps.0; wrote = wrote (flat_map (lines_written steps.0.course.plan) steps.0.course.handed) steps.3; comes = list_comes r short flushed missed kept came now steps.0.course.handed steps.0.last old.streams.out new.streams.out steps.1 steps.2 counted steps.4 ends; ends = same }))
list_said missed short flushed (Err e) kept came tells cx stable rustup looks now had has old mid new steps none ends counted same calls err out wrote = inl (
  e,
  ends,
  (
    none.0,
    (calls ∙ none.1.0, λ off. not_off off, out),
    none.2,
    subst (λ (s : Stream). (s ≡ old.streams.err) ⊎ ((is_hunt true cx.args ≡ false) × SaysPlanNotes cx stable rustup looks.coloring e old.streams.err s)) (sym err) none.3,
  ),
)

-- a list that was handed over, or what was printed before it was refused
pub handed_said : {X Y : Type 0} (r : Result Bool PlanFault) → OnOk r X → (X → Y) → IfOk r (λ short. Y)
handed_said (Ok short) h f = f h
handed_said (Err fault) h f = tt

pub on_error : {X Y T E : Type 0} (r : Result T E) → OnErr r X → (X → Y) → OnErr r Y
on_error (Ok v) h f = tt
on_error (Err e) h f = f h

pub refused_said : {K : Type 0} {X P Q : PlanFault → Type 0} (r : Result Bool PlanFault) → OnErr r K → IfErr r X → IfErr r P → ((e : PlanFault) → K → X e → P e → Q e) → IfErr r Q
refused_said (Ok short) kept h cause f = tt
refused_said (Err e) kept h cause f = f e kept h cause

pub refused_kept : {K Q : Type 0} {X : PlanFault → Type 0} (r : Result Bool PlanFault) → OnErr r K → IfErr r X → ((e : PlanFault) → K → X e → Q) → OnErr r Q
refused_kept (Ok short) kept h f = tt
refused_kept (Err e) kept h f = f e kept h

-- a plan is listed, where that is asked for
pub plan_listed : (came : Result (Unit {0}) RunFault) (tells : Type 0) (cx : ContextRecord) (stable : Stable) (rustup : Name) (looks now : Looks) (old new : Scene) → cx.args.print_command_list ≡ true
    → SaysNoPlan came true cx stable rustup looks now old new ⊎ SaysStarved came looks now old new ⊎ SaysList came tells cx stable rustup looks now old new → SaysPlan came tells cx stable rustup looks now old new
plan_listed came tells cx stable rustup looks now old new is (inl none) = inl (subst (λ (b : Bool). SaysNoPlan came b cx stable rustup looks now old new) (sym is) none)
plan_listed came tells cx stable rustup looks now old new is (inr said) =
    inr (subst (λ (b : Bool). MatchBool b (SaysStarved came looks now old new ⊎ SaysList came tells cx stable rustup looks now old new) (SaysRuns came tells cx stable rustup looks now old new)) (sym is) said)

-- ... else its runs are performed
pub plan_run : (came : Result (Unit {0}) RunFault) (tells : Type 0) (cx : ContextRecord) (stable : Stable) (rustup : Name) (looks now : Looks) (old new : Scene) → cx.args.print_command_list ≡ false
    → SaysNoPlan came false cx stable rustup looks now old new ⊎ SaysRuns came tells cx stable rustup looks now old new → SaysPlan came tells cx stable rustup looks now old new
plan_run came tells cx stable rustup looks now old new is (inl none) = inl (subst (λ (b : Bool). SaysNoPlan came b cx stable rustup looks now old new) (sym is) none)
plan_run came tells cx stable rustup looks now old new is (inr said) =
    inr (subst (λ (b : Bool). MatchBool b (SaysStarved came looks now old new ⊎ SaysList came tells cx stable rustup looks now old new) (SaysRuns came tells cx stable rustup looks now old new)) (sym is) said)

-- lines look the same after a list was handed over
pub list_looks : {R : Type 0} (whole : Type 0) (had has : Option (List ℕ)) (Told : List Note → R → R → Type 0) (Ran : PlanView → List Handed → R → R → Type 0) (cx : ContextRecord) (stable : Stable) (rustup : Name) (a b : R)
    → HandsOverAtMostOne whole had has Told Ran cx stable rustup a b → (term : R → Term) → ((notes : List Note) (x y : R) → Told notes x y → looks_of (term y) ≡ record (looks_of (term x)) { reported = (term y).error })
    → ((plan : PlanView) (steps : List Handed) (x y : R) → Ran plan steps x y → looks_of (term y) ≡ record (looks_of (term x)) { reported = (term y).error }) → looks_of (term b) ≡ record (looks_of (term a)) { reported = (term b).error }
list_looks whole had has Told Ran cx stable rustup a b (inl (inl same, kept)) term told ran = subst (λ r. looks_of (term r) ≡ record (looks_of (term a)) { reported = (term r).error }) (sym same) refl
list_looks whole had has Told Ran cx stable rustup a b (inl (inr some, kept)) term told ran = told some.0 a b some.1
list_looks whole had has Told Ran cx stable rustup a b (inr l) term told ran =
    looks_later (term a) (term l.mid) (term b) (told l.notes a l.mid l.told) (ran l.course.plan (filter is_sent l.course.handed) l.mid b l.ran)

pub looks_told : (x y : Term) (notes : List Note) → y ≡ after_notes x notes → looks_of y ≡ record (looks_of x) { reported = y.error }
looks_told x y notes told = subst (λ (t : Term). looks_of t ≡ record (looks_of x) { reported = t.error }) (sym told) refl

pub looks_ran : (x y : Term) → y ≡ record x { error = y.error } → looks_of y ≡ record (looks_of x) { reported = y.error }
looks_ran x y ran = ap (λ (t : Term). looks_of t) ran

-- there is no plan: nothing was printed, or the notices of one that was made
pub no_plan : {C O E : Type 0} (listing : Bool) (calls : C → List Call) (e : Taking E) (cx : ContextRecord) (stable : Stable) (rustup : Name) (error : PlanFault) (term : Term) (a b : Starter C O E) (old new : Scene)
    → a.term.now ≡ term → calls a.caller.now ≡ old.calls → stream_of e a.err.now ≡ old.streams.err → new.calls ≡ calls b.caller.now → (listing ≡ false → new.streams.out ≡ old.streams.out) → Keeps old.streams.out.bytes new.streams.out.bytes → new.streams.err ≡ stream_of e b.err.now → is_hunt listing cx.args ≡ false → IsNoPlan listing cx stable error
    → ((b ≡ a) ⊎ ((error ≡ plan.Memory) × (made : PlanView) × (notes : List Note) × IsPlanOf cx.args.subcommand stable cx rustup made notes × TellsNotes e notes a b)) → HasNoPlan listing cx stable rustup (looks_of term) (looks_of b.term.now) old new error
no_plan listing calls e cx stable rustup error term a b old new term_is calls_is start calls_end out kept end apart cause (inl same) = (
  cause,
  (calls_end ∙ ap (λ s. calls s.caller.now) same ∙ calls_is, out, kept),
  ap (λ s. looks_of s.term.now) same ∙ ap looks_of term_is,
  inl (end ∙ ap (λ s. stream_of e s.err.now) same ∙ start),
)
no_plan listing calls e cx stable rustup error term a b old new term_is calls_is start calls_end out kept end apart cause (inr some) =
    let told = some.4 in
    let said = subst (λ (t : Term). WritesAll (note_lines t.coloring some.2) (stream_of e a.err.now) (stream_of e b.err.now)) term_is told.12 in (
      cause,
      (calls_end ∙ ap calls told.3 ∙ calls_is, out, kept),
      ap looks_of told.6 ∙ ap looks_of term_is,
      inr (
        apart,
        (
          some.0,
          some.1,
          some.2,
          some.3,
          subst (λ (s : Stream). WritesAll (note_lines term.coloring some.2) old.streams.err s) (sym end)
              (subst (λ (s : Stream). WritesAll (note_lines term.coloring some.2) s (stream_of e b.err.now)) start said),
        ),
      ),
    )
