-- What a call says, put together from its stages.
use Rattle.std.proofs.Common.{◌≡◌, ◌⊎◌, ◌∙◌, ℕ, Bool, Err, List, None, Ok, Option, Result, Some, ap, false, if◌then◌else◌, inl, inr, refl, subst, sym, true}
use Rattle.std.specs.Prelude.{◌&&◌, ◌||◌, All, MatchBool, MatchOption, nat_lt, not}
use Rattle.std.specs.List.{flat_map}
use Rattle.std.specs.Io.KnownBytes.{Appends}
use Rattle.hack_base.specs.Names.{Name}
use Rattle.hack_base.specs.Notes.{Note}
use Rattle.hack_base.specs.Streams.{Stream, WritesAll, stream_of}
use Rattle.hack_base.specs.declared.writes.Sink.{Ghosts as Taking}
use Rattle.hack_drive.specs.Shown.{note_lines}
use Rattle.hack_drive.specs.Warnings.{TellsNotes, after_notes}
use Rattle.hack_load.specs.Contexts.{ContextRecord}
use Rattle.hack_planner.specs.CallPlan.{IsPlanOf}
use Rattle.hack_process.specs.Calls.{Call}
use Rattle.hack_process.specs.declared.fault.ProcessFault.{ProcessFault}
use Rattle.hack_report.specs.Reported.{SaysCutReport, SaysReport, are_reported}
use Rattle.hack_plan.specs.View.{PlanView}
use Rattle.hack_session.specs.Histories.{Course}
use Rattle.hack_session.specs.Internal.{IsWrittenStep}
use Rattle.hack_session.specs.ListLines.{lines_written}
use Rattle.hack_session.specs.declared.step.Handed.{Handed}
use Rattle.hack_session.specs.StepEffects.{DoesAll, Scene, State, state}
use Rattle.hack_session.specs.StepOutput.{Manner, Streams, manner_of}
use Rattle.hack_session.specs.declared.starter.Starter.{Starter}
use Rattle.hack_term.specs.declared.log_group.LogGroup.{LogGroup}
use Rattle.hack_term.specs.declared.log_group.LogGroup.TheVariants as log
use Rattle.hack_term.specs.declared.term.Coloring.{Coloring}
use Rattle.hack_term.specs.declared.term.Term.{Term}
use Rattle.hack_planner.specs.declared.stable.Stable.{Stable}
use Rattle.hack_words.specs.declared.cli.args.Args.{Args}
use Rattle.hack_run.specs.Conclusions.{Conclusion, ConcludesSo, SaysSearch}
use Rattle.hack_run.specs.Handed.{IsPlannedAsAsked, is_search}
use Rattle.hack_run.specs.Internal.{HandsSteps, ListsSteps}
use Rattle.hack_run.specs.Shown.{ComesOfRuns, ComesOfSearch, Looks, SaysRuns, SaysSteps, StopsAtEnd, goes_on, is_at_end, looks_of, manner_for, performed_of, reported_on}
use Rattle.hack_run.specs.declared.fault.RunFault.{RunFault}
use Rattle.hack_run.specs.declared.fault.RunFault.TheVariants as fault
use Rattle.hack_run.proofs.EndedLemmas.{Stops}

by_case : (P Q : Type 0) (case b : Bool) → b ≡ case → MatchBool case P Q → MatchBool b P Q
by_case P Q case b is h = subst (λ (c : Bool). MatchBool c P Q) (sym is) h

pub not_off : {X : Type 0} → true ≡ false → X
not_off off = absurd (cc)

pub off_on : {X : Type 0} → false ≡ true → X
off_on on = absurd (cc)

-- the group of a starter's lines
abbrev pub group_for : Bool → Args → LogGroup
group_for listing args = if listing then log.None else args.log_group

-- steps were performed, those of a search up to the end of the call
abbrev Performs : Type 0 → Bool → Bool → Manner → PlanView → List Handed → State → State → Type 0
Performs tells searching k m plan steps a b = (did : DoesAll tells k m plan steps a b) × (searching ≡ true → StopsAtEnd tells k m plan steps a b did)

-- the notices were printed by a starter, and then the steps performed, which began at these streams
pub steps_said : {C O E : Type 0} (tells : Type 0) (listing : Bool) (calls : C → List Call) (e : Taking E) (cx : ContextRecord) (stable : Stable) (rustup : Name)
    (course : Course) (notes : List Note) (fails warns : Bool) (start mid : Starter C O E) (begun : Streams) (last : State) (term : Term) (old new : Scene)
    → IsPlannedAsAsked (IsPlanOf cx.args.subcommand stable cx rustup) false listing cx rustup course notes fails warns
    → calls start.caller.now ≡ old.calls → start.term.now ≡ term → stream_of e start.err.now ≡ old.streams.err → start.fault.now ≡ None → start.refused ≡ 0
    → start.keep_going ≡ goes_on listing cx.args → start.log_group ≡ group_for listing cx.args
    → TellsNotes e notes start mid → begun.err ≡ stream_of e mid.err.now → (listing ≡ false → begun.out ≡ old.streams.out)
    → Performs tells (is_search listing cx.args) mid.keep_going (manner_of mid.log_group mid.term.now) course.plan (performed_of listing course.handed) (state (calls mid.caller.now) begun mid.fault.now mid.term.now.error mid.refused) last
    → new.calls ≡ last.scene.calls → (listing ≡ false → new.streams.out ≡ last.scene.streams.out) → new.streams.err ≡ last.scene.streams.err
    → SaysSteps tells listing cx stable rustup (looks_of term) old new
steps_said {C} {O} {E} tells listing calls e cx stable rustup course notes fails warns start mid begun last term old new made caller_is term_is err_is fault_is refused_is keep_is group_is told begun_is first did calls_end out_end err_end =
    let group = group_for listing cx.args in
    let steps = performed_of listing course.handed in
    let term_end : mid.term.now ≡ after_notes term notes = told.6 ∙ ap (λ (t : Term). after_notes t notes) term_is in
    let calls_is = ap (λ (cs : List Call). state cs begun mid.fault.now mid.term.now.error mid.refused) (ap calls told.3 ∙ caller_is) in
    let kept_is = ap (λ (f : Option ProcessFault). state old.calls begun f mid.term.now.error mid.refused) (told.5 ∙ fault_is) in
    let flag_is = ap (λ (t : Term). state old.calls begun None t.error mid.refused) term_end in
    let count_is = ap (λ (n : ℕ). state old.calls begun None term.error n) (told.4 ∙ refused_is) in
    let searching = is_search listing cx.args in
    let manner_is = ap (λ (g : LogGroup). manner_of g mid.term.now) (told.11 ∙ group_is) ∙ ap (λ (t : Term). manner_of group t) term_end in
    let performed = subst (λ (k : Bool). Performs tells searching k (manner_for listing cx.args (looks_of term)) course.plan steps (state old.calls begun None term.error 0) last) (told.10 ∙ keep_is)
    (subst (λ (m : Manner). Performs tells searching mid.keep_going m course.plan steps (state old.calls begun None term.error 0) last) manner_is
    (subst (λ (s : State). Performs tells searching mid.keep_going (manner_of mid.log_group mid.term.now) course.plan steps s last) (calls_is ∙ kept_is ∙ flag_is ∙ count_is) did)) in
    record {
      course = course;
      notes = notes;
      fails = fails;
      warns = warns;
      planned = made;
      begun = begun;
      first = first;
      told = subst (λ (s : Stream). WritesAll (note_lines term.coloring notes) old.streams.err s) (sym begun_is)
          (subst (λ (t : Term). WritesAll (note_lines t.coloring notes) old.streams.err (stream_of e mid.err.now)) term_is
          (subst (λ (s : Stream). WritesAll (note_lines start.term.now.coloring notes) s (stream_of e mid.err.now)) err_is told.12));
      last = last;
      does = performed.0;
      stops = performed.1;
      calls = calls_end;
      out = out_end;
      err = err_end;
    }

-- the same of a session
pub steps_handed : {C O E : Type 0} (tells : Type 0) (calls : C → List Call) (e : Taking E) (cx : ContextRecord) (stable : Stable) (rustup : Name)
    (course : Course) (notes : List Note) (fails warns : Bool) (start mid : Starter C O E) (begun : Streams) (last : State) (term : Term) (old new : Scene)
    → IsPlannedAsAsked (IsPlanOf cx.args.subcommand stable cx rustup) false false cx rustup course notes fails warns
    → calls start.caller.now ≡ old.calls → start.term.now ≡ term → stream_of e start.err.now ≡ old.streams.err → start.fault.now ≡ None → start.refused ≡ 0
    → start.keep_going ≡ goes_on false cx.args → start.log_group ≡ cx.args.log_group
    → TellsNotes e notes start mid → begun.err ≡ stream_of e mid.err.now → (false ≡ false → begun.out ≡ old.streams.out)
    → DoesAll tells mid.keep_going (manner_of mid.log_group mid.term.now) course.plan course.handed (state (calls mid.caller.now) begun mid.fault.now mid.term.now.error mid.refused) last
    → new.calls ≡ last.scene.calls → (false ≡ false → new.streams.out ≡ last.scene.streams.out) → new.streams.err ≡ last.scene.streams.err → is_search false cx.args ≡ false
    → HandsSteps tells cx stable rustup last.kept last.told (looks_of term) (Some course) old new
unfolding steps_said
steps_handed tells calls e cx stable rustup course notes fails warns start mid begun last term old new made caller_is term_is err_is fault_is refused_is keep_is group_is told begun_is first did calls_end out_end err_end off = record {
  mid = new;
  steps = steps_said tells false calls e cx stable rustup course notes fails warns start mid begun last term old new made caller_is term_is err_is fault_is refused_is keep_is group_is told begun_is first (did, λ on. not_off (sym on ∙ off)) calls_end out_end err_end;
  calls = refl;
  out = refl;
  behind = by_case _ _ false (is_search false cx.args) off (refl, refl, refl, refl);
}

-- the same of a search, whose conclusion was said behind them
pub steps_searched : {C O E : Type 0} (tells : Type 0) (calls : C → List Call) (e : Taking E) (cx : ContextRecord) (stable : Stable) (rustup : Name) (left : Option ProcessFault) (reported : Bool)
    (course : Course) (notes : List Note) (fails warns : Bool) (start mid : Starter C O E) (begun : Streams) (last : State) (term : Term) (old between new : Scene) (conclusion : Conclusion)
    → IsPlannedAsAsked (IsPlanOf cx.args.subcommand stable cx rustup) false false cx rustup course notes fails warns
    → calls start.caller.now ≡ old.calls → start.term.now ≡ term → stream_of e start.err.now ≡ old.streams.err → start.fault.now ≡ None → start.refused ≡ 0
    → start.keep_going ≡ goes_on false cx.args → start.log_group ≡ cx.args.log_group
    → TellsNotes e notes start mid → begun.err ≡ stream_of e mid.err.now → (false ≡ false → begun.out ≡ old.streams.out)
    → Stops tells mid.keep_going (manner_of mid.log_group mid.term.now) course.plan course.handed (state (calls mid.caller.now) begun mid.fault.now mid.term.now.error mid.refused) last
    → between.calls ≡ last.scene.calls → (false ≡ false → between.streams.out ≡ last.scene.streams.out) → between.streams.err ≡ last.scene.streams.err → is_search false cx.args ≡ true
    → ConcludesSo cx rustup course notes fails warns (is_at_end last) conclusion → SaysSearch (nat_lt 0 last.refused) conclusion term.coloring last.kept last.told left reported between.streams.err new.streams.err
    → new.calls ≡ between.calls → new.streams.out ≡ between.streams.out → HandsSteps tells cx stable rustup left reported (looks_of term) None old new
unfolding steps_said
steps_searched tells calls e cx stable rustup left reported course notes fails warns start mid begun last term old between new conclusion made caller_is term_is err_is fault_is refused_is keep_is group_is told begun_is first did calls_end out_end err_end on concludes said calls_more out_more = record {
  mid = between;
  steps = steps_said tells false calls e cx stable rustup course notes fails warns start mid begun last term old between made caller_is term_is err_is fault_is refused_is keep_is group_is told begun_is first (did.0, λ _. did.1) calls_end out_end err_end;
  calls = calls_more;
  out = out_more;
  behind = by_case _ _ true (is_search false cx.args) on (refl, conclusion, concludes, said);
}

-- the same of a list
pub steps_listed : {C O E : Type 0} (NoneMissed : Type 0) (tells : Type 0) (calls : C → List Call) (e : Taking E) (cx : ContextRecord) (stable : Stable) (rustup : Name) (now : Option ProcessFault) (reported : Bool) (had has : Option (List ℕ))
    (course : Course) (notes : List Note) (fails warns : Bool) (start mid : Starter C O E) (begun : Streams) (last : State) (term : Term) (old new : Scene)
    → IsPlannedAsAsked (IsPlanOf cx.args.subcommand stable cx rustup) false true cx rustup course notes fails warns
    → calls start.caller.now ≡ old.calls → start.term.now ≡ term → stream_of e start.err.now ≡ old.streams.err → start.fault.now ≡ None → start.refused ≡ 0
    → start.keep_going ≡ goes_on true cx.args → start.log_group ≡ group_for true cx.args
    → TellsNotes e notes start mid → begun.err ≡ stream_of e mid.err.now → (true ≡ false → begun.out ≡ old.streams.out)
    → DoesAll tells mid.keep_going (manner_of mid.log_group mid.term.now) course.plan (performed_of true course.handed) (state (calls mid.caller.now) begun mid.fault.now mid.term.now.error mid.refused) last
    → new.calls ≡ last.scene.calls → (true ≡ false → new.streams.out ≡ last.scene.streams.out) → new.streams.err ≡ last.scene.streams.err → now ≡ last.kept → reported ≡ last.told → Appends had has (flat_map (lines_written course.plan) course.handed) → (NoneMissed → All IsWrittenStep course.handed)
    → ListsSteps NoneMissed tells cx stable rustup now reported (looks_of term) had has old new
unfolding steps_said
steps_listed NoneMissed tells calls e cx stable rustup now reported had has course notes fails warns start mid begun last term old new made caller_is term_is err_is fault_is refused_is keep_is group_is told begun_is first did calls_end out_end err_end kept_end told_end wrote listed = (
  steps_said tells true calls e cx stable rustup course notes fails warns start mid begun last term old new made caller_is term_is err_is fault_is refused_is keep_is group_is told begun_is first (did, λ on. off_on on) calls_end out_end err_end,
  kept_end,
  told_end,
  wrote,
  listed,
)

some-same : {s t : Course} → Some s ≡ Some t → s ≡ t
some-same {s} {t} e = ap (λ (o : Option Course). get_some o s) e
  where
    get_some : Option Course → Course → Course
    get_some None d = d
    get_some (Some x) d = x

-- what runs come to, by what is kept of their steps
comes_by : (came : Result (Unit {0}) RunFault) (cx : ContextRecord) (looks now : Looks) (course : Course) (last : State) (kept : Option ProcessFault) (old new : Stream) → last.kept ≡ kept
    → MatchOption kept
    (((came ≡ Err fault.Memory) × SaysCutReport looks.coloring course old new)
    ⊎ ((came ≡ Ok tt) × SaysReport looks.coloring cx course old new × (now.reported ≡ (last.told || are_reported course))))
    (λ failed. (came ≡ Err (fault.Process failed)) × (new ≡ old))
    → ComesOfRuns came cx looks now course last old new
comes_by came cx looks now course last kept old new is h = subst (λ (o : Option ProcessFault). MatchOption o
    (((came ≡ Err fault.Memory) × SaysCutReport looks.coloring course old new)
    ⊎ ((came ≡ Ok tt) × SaysReport looks.coloring cx course old new × (now.reported ≡ (last.told || are_reported course))))
    (λ failed. (came ≡ Err (fault.Process failed)) × (new ≡ old))) (sym is) h

-- the session is one where no search is asked for, and none where one is
module _ (tells : Type 0) (cx : ContextRecord) (stable : Stable) (rustup : Name) (looks now : Looks) (old hands new : Scene) (left : Option ProcessFault) (came : Result (Unit {0}) RunFault)
    (calls : new.calls ≡ hands.calls) (out : new.streams.out ≡ hands.streams.out) (same : now ≡ reported_on now.reported looks) where
  said-by : (session : Option Course) (reported : Bool) (h : HandsSteps tells cx stable rustup left reported looks session old hands)
      → ((conclusion : Conclusion) → session ≡ None → ConcludesSo cx rustup h.steps.course h.steps.notes h.steps.fails h.steps.warns (is_at_end h.steps.last) conclusion
      → SaysSearch (nat_lt 0 h.steps.last.refused) conclusion looks.coloring h.steps.last.kept h.steps.last.told left reported h.mid.streams.err hands.streams.err
      → ComesOfSearch came cx rustup looks now h.steps.course h.steps.notes h.steps.fails h.steps.warns h.steps.last h.mid.streams.err new.streams.err)
      → (session ≡ Some h.steps.course → left ≡ h.steps.last.kept → reported ≡ h.steps.last.told → hands.streams.err ≡ h.mid.streams.err
      → ComesOfRuns came cx looks now h.steps.course h.steps.last h.mid.streams.err new.streams.err)
      → SaysRuns came tells cx stable rustup looks now old new
  said-by session reported h searched ran = record {
    mid = h.mid;
    steps = h.steps;
    calls = calls ∙ h.calls;
    out = out ∙ h.out;
    comes = go (is_search false cx.args) h.behind;
    ends = same;
  }
    where
      go : (b : Bool)
          → MatchBool b
          ((session ≡ None) × (conclusion : Conclusion) × ConcludesSo cx rustup h.steps.course h.steps.notes h.steps.fails h.steps.warns (is_at_end h.steps.last) conclusion
          × SaysSearch (nat_lt 0 h.steps.last.refused) conclusion looks.coloring h.steps.last.kept h.steps.last.told left reported h.mid.streams.err hands.streams.err)
          ((session ≡ Some h.steps.course) × (left ≡ h.steps.last.kept) × (reported ≡ h.steps.last.told) × (hands.streams.err ≡ h.mid.streams.err))
          → MatchBool b
          (ComesOfSearch came cx rustup looks now h.steps.course h.steps.notes h.steps.fails h.steps.warns h.steps.last h.mid.streams.err new.streams.err)
          (ComesOfRuns came cx looks now h.steps.course h.steps.last h.mid.streams.err new.streams.err)
      go true p = searched p.1 p.0 p.2 p.3
      go false p = ran p.0 p.1 p.2 p.3

-- the error that is left ends the call
left_by : (came : Result (Unit {0}) RunFault) (left known : Option ProcessFault) → left ≡ known → MatchOption known (came ≡ Ok tt) (λ failed. came ≡ Err (fault.Process failed)) → MatchOption left (came ≡ Ok tt) (λ failed. came ≡ Err (fault.Process failed))
left_by came left known is h = subst (λ (o : Option ProcessFault). MatchOption o (came ≡ Ok tt) (λ failed. came ≡ Err (fault.Process failed))) (sym is) h

-- steps were said, and no report after them, since they were stopped
pub said_stopped : (failed : ProcessFault) (left : Option ProcessFault) (tells : Type 0) (cx : ContextRecord) (stable : Stable) (rustup : Name) (looks now : Looks) (session : Option Course) (old new : Scene)
    → HandsSteps tells cx stable rustup left now.reported looks session old new → left ≡ Some failed → now ≡ reported_on now.reported looks → SaysRuns (Err (fault.Process failed)) tells cx stable rustup looks now old new
said_stopped failed left tells cx stable rustup looks now session old new h is same =
    said-by tells cx stable rustup looks now old new new left (Err (fault.Process failed)) refl refl same session now.reported h
    (λ conclusion none concludes said. (
      conclusion,
      left,
      concludes,
      said,
      left_by (Err (fault.Process failed)) left (Some failed) is refl,
    ))
    (λ one kept told quiet. comes_by (Err (fault.Process failed)) cx looks now h.steps.course h.steps.last (Some failed) h.mid.streams.err new.streams.err (sym kept ∙ is) (refl, quiet))

-- ... or since memory was refused for it
pub said_unreported : (came : Result (Unit {0}) RunFault) (left : Option ProcessFault) (reported : Bool) (tells : Type 0) (cx : ContextRecord) (stable : Stable) (rustup : Name) (looks now : Looks) (course : Course) (old hands new : Scene)
    → HandsSteps tells cx stable rustup left reported looks (Some course) old hands → left ≡ None → came ≡ Err fault.Memory → new.calls ≡ hands.calls → new.streams.out ≡ hands.streams.out
    → SaysCutReport looks.coloring course hands.streams.err new.streams.err → now ≡ reported_on now.reported looks → SaysRuns came tells cx stable rustup looks now old new
said_unreported came left reported tells cx stable rustup looks now course old hands new h none is calls out cut same =
    said-by tells cx stable rustup looks now old hands new left came calls out same (Some course) reported h
    (λ conclusion nothing concludes said. absurd (cc))
    (λ one kept told quiet. comes_by came cx looks now h.steps.course h.steps.last None h.mid.streams.err new.streams.err (sym kept ∙ none)
    (inl (is, subst (λ (s : Stream). SaysCutReport looks.coloring h.steps.course s new.streams.err) quiet (subst (λ (t : Course). SaysCutReport looks.coloring t hands.streams.err new.streams.err) (some-same one) cut))))

-- ... and the report
pub said_reported : (left : Option ProcessFault) (reported : Bool) (tells : Type 0) (cx : ContextRecord) (stable : Stable) (rustup : Name) (looks now : Looks) (course : Course) (old hands new : Scene)
    → HandsSteps tells cx stable rustup left reported looks (Some course) old hands → left ≡ None → new.calls ≡ hands.calls → new.streams.out ≡ hands.streams.out
    → SaysReport looks.coloring cx course hands.streams.err new.streams.err → now.reported ≡ (reported || are_reported course) → now ≡ reported_on now.reported looks → SaysRuns (Ok tt) tells cx stable rustup looks now old new
said_reported left reported tells cx stable rustup looks now course old hands new h none calls out report noted same =
    said-by tells cx stable rustup looks now old hands new left (Ok tt) calls out same (Some course) reported h
    (λ conclusion nothing concludes said. absurd (cc))
    (λ one kept told quiet. comes_by (Ok tt) cx looks now h.steps.course h.steps.last None h.mid.streams.err new.streams.err (sym kept ∙ none)
    (inr (
      refl,
      subst (λ (s : Stream). SaysReport looks.coloring cx h.steps.course s new.streams.err) quiet (subst (λ (t : Course). SaysReport looks.coloring cx t hands.streams.err new.streams.err) (some-same one) report),
      noted ∙ ap (λ (b : Bool). b || are_reported course) told ∙ ap (λ (t : Course). h.steps.last.told || are_reported t) (some-same one),
    )))

-- a search's steps were said, and its conclusion
pub said_found : (left : Option ProcessFault) (tells : Type 0) (cx : ContextRecord) (stable : Stable) (rustup : Name) (looks now : Looks) (session : Option Course) (old new : Scene)
    → HandsSteps tells cx stable rustup left now.reported looks session old new → left ≡ None → session ≡ None → now ≡ reported_on now.reported looks → SaysRuns (Ok tt) tells cx stable rustup looks now old new
said_found left tells cx stable rustup looks now session old new h none nothing same =
    said-by tells cx stable rustup looks now old new new left (Ok tt) refl refl same session now.reported h
    (λ conclusion is concludes said. (conclusion, left, concludes, said, left_by (Ok tt) left None none refl))
    (λ one kept told quiet. let both : None ≡ Some h.steps.course = sym nothing ∙ one in absurd (cc))

-- runs go on where that is asked for, and no search is
pub goes_on_if : (args : Args) → is_search false args ≡ false → goes_on false args ≡ args.keep_going
goes_on_if args off = ap (λ (b : Bool). not b && args.keep_going) off

pub goes_on_unless : (args : Args) → is_search false args ≡ true → goes_on false args ≡ false
goes_on_unless args on = ap (λ (b : Bool). not b && args.keep_going) on

-- lines look the same after notices and steps
pub looks_after : (term start mid last : Term) (notes : List Note) → start ≡ term → mid ≡ after_notes start notes → last ≡ record mid { error = last.error }
    → looks_of last ≡ reported_on last.error (looks_of term)
looks_after term start mid last notes first told ran =
    ap (λ (t : Term). record { coloring = t.coloring; verbose = t.verbose; reported = last.error }) (ran ∙ ap (λ (t : Term). record t { error = last.error }) (told ∙ ap (λ (t : Term). after_notes t notes) first))

pub looks_later : (term mid last : Term) → looks_of mid ≡ record (looks_of term) { reported = mid.error } → looks_of last ≡ record (looks_of mid) { reported = last.error }
    → looks_of last ≡ reported_on last.error (looks_of term)
looks_later term mid last first later = later ∙ ap (λ (l : Looks). record l { reported = last.error }) first

-- a report is coloured as the call's lines
pub report_of : (cx : ContextRecord) (t : Course) (a b : Term) (old new : Stream) → looks_of a ≡ record (looks_of b) { reported = a.error } → SaysReport a.coloring cx t old new → SaysReport b.coloring cx t old new
report_of cx t a b old new looks report = subst (λ (coloring : Coloring). SaysReport coloring cx t old new) (ap (λ l. l.coloring) looks) report

pub cut_of : (t : Course) (a b : Term) (old new : Stream) → looks_of a ≡ record (looks_of b) { reported = a.error } → SaysCutReport a.coloring t old new → SaysCutReport b.coloring t old new
cut_of t a b old new looks cut = subst (λ (coloring : Coloring). SaysCutReport coloring t old new) (ap (λ l. l.coloring) looks) cut
