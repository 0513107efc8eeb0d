-- One history of a plan: its calls, and what a list writes.
use Rattle.std.proofs.Common.{◌≡◌, ◌⊎◌, inl, inr, refl, arith, ap, zero, suc, Result, Ok, Err, OnOk, ℕ, List, [], ◌∷◌, filter, All, Bool, Option, Some, None, IsSome, ◌∙◌, sym, subst, append-nil, if◌then◌else◌, true, false}
use Rattle.std.specs.Prelude.{MatchBool, ◌≤◌, ◌<◌, ◌^◌, ◌||◌, nat_lt}
use Rattle.std.specs.List.{flat_map}
use Rattle.std.specs.Io.KnownBytes.{Appends, Keeps, append_known}
use Rattle.std.proofs.KnownBytes.{Appends-kept, Appends-nil, Appends-trans}
use Rattle.std.proofs.lemmas.List.Elements.{All-cons, All-head, All-tail}
use Rattle.std.proofs.lemmas.Bool.{lt-ltb, true≢false}
use Rattle.hack_process.specs.Calls.{Call}
use Rattle.hack_process.specs.declared.fault.ProcessFault.{ProcessFault}
use Rattle.hack_term.specs.declared.term.Term.{Term}
use Rattle.hack_plan.specs.View.{PlanView}
use Rattle.hack_session.specs.Histories.{Course, HasPassed}
use Rattle.hack_session.specs.ListLines.{ListsStep, ListsAll, Page, is_failed, is_sent, is_sent_step, lines_written, step_lines}
use Rattle.hack_session.specs.Internal.{IsWrittenStep}
use Rattle.hack_session.proofs.RunLemmas.{HasPerformed}
use Rattle.hack_session.proofs.StepLemmas.{HasTold}
use Rattle.hack_session.specs.StepCalls.{MakesCalls, PerformsAll}
use Rattle.hack_session.specs.declared.step.Handed.{Handed}
use Rattle.hack_plan.specs.declared.parts.Preparation.TheVariants.{Toolchain, Lockfile, Clean}
use Rattle.hack_session.specs.declared.step.Step.{Step}
use Rattle.hack_session.specs.declared.step.Step.TheVariants.{Prepare, Skip, Run}
use Rattle.hack_session.specs.declared.step.Outcome.{Outcome}
use Rattle.hack_session.specs.declared.step.Outcome.TheVariants.{Passed, Failed}
use Rattle.hack_base.specs.Counters.{GrowsBy}
use Rattle.hack_base.specs.Names.{Name}
use Rattle.hack_load.specs.Contexts.{ContextRecord}
use Rattle.hack_planner.specs.declared.stable.Stable.{Stable}
use Rattle.hack_base.specs.Notes.{Note}
use Rattle.hack_planner.proofs.Performing.{performable}
use Rattle.hack_planner.specs.CallPlan.{IsPerformableOf, IsPlanOf}
use Rattle.hack_run.specs.CallTrace.{PerformsOne, WritesText}
use Rattle.hack_session.specs.Handouts.{IsDriven}
use Rattle.hack_words.specs.declared.cli.args.Args.{Args}
use Rattle.hack_run.specs.Handed.{IsHandedAsAsked, IsHuntedOut, IsPlannedAsAsked, IsSearchedOut, is_search}
use Rattle.hack_run.specs.InternalExtensions.{Extends}
use Rattle.hack_run.specs.Internal.{HandsOverAtMostOne, ListsOver, PerformsAtMostOne, host_writing}
use Rattle.hack_run.specs.Started.{MakesStarted}
use Rattle.hack_drive.specs.Warnings.{Warned}
use Rattle.hack_run.proofs.TraceLemmas.{all_shown, one_told, unended}
use Rattle.hack_run.specs.Worlds.{HostView}
use Rattle.hack_run.proofs.GatherLemmas.{front_written, known-none}

none_kept : (fault : Option ProcessFault) → fault ≡ None → IsSome fault → ⊥
none_kept None n s = cc
none_kept (Some e) n s = cc

-- where no error is kept and none was reported, each step passed
pub all_passed : (steps : List Handed) (term : Term) (fault : Option ProcessFault) → (All HasPassed steps ⊎ HasTold term.error fault) → fault ≡ None → term.error ≡ false → All HasPassed steps
all_passed steps term fault (inl a) none quiet = a
all_passed steps term fault (inr (inl told)) none quiet = let e : true ≡ false = sym told ∙ quiet in absurd (cc)
all_passed steps term fault (inr (inr kept)) none quiet = absurd (none_kept fault none kept)

-- a count of refusals that isn't above 0 is 0
pub none_refused : {E : Type 0} (n : ℕ) → ◌≡◌ {A = Result Bool E} (Ok (nat_lt 0 n)) (Ok false) → n ≡ 0
none_refused zero e = refl
none_refused (suc n) e = let some : nat_lt 0 (suc n) ≡ true = lt-ltb 0 (suc n) (omega arith) in absurd (cc)

-- a count that isn't above 0 is 0
pub unrefused : (n : ℕ) → nat_lt 0 n ≡ false → n ≡ 0
unrefused zero e = refl
unrefused (suc n) e = let some : nat_lt 0 (suc n) ≡ true = lt-ltb 0 (suc n) (omega arith) in absurd (cc)

-- counts of 64 bits
abbrev Small : Page → Type 0
Small page = (page.failed < 2 ^ 64) × (page.refused < 2 ^ 64)

-- no count goes down
record Rises (old new : Page) : Type 0 where
  small : Small new
  failed : old.failed ≤ new.failed
  refused : old.refused ≤ new.refused

rises_one : (whole : Type 0) (b : Bool) (plan : PlanView) (h : Handed) (old new : Page) → Small old → ListsStep whole b plan h old new → Rises old new
rises_one whole true plan h old new low same = subst (λ (p : Page). Rises old p) (sym same) (record { small = low; failed = omega arith; refused = omega arith })
rises_one whole false plan h old new low (inl w) = let f = w.counted low.0 in record { small = (omega (arith, f), omega (arith, w.kept, low.1)); failed = omega (arith, f, low.0); refused = omega (arith, w.kept) }
rises_one whole false plan h old new low (inr (inl m)) = let f = m.counted low.0 in record { small = (omega (arith, f), omega (arith, m.kept, low.1)); failed = omega (arith, f, low.0); refused = omega (arith, m.kept) }
rises_one whole false plan h old new low (inr (inr r)) = let f = r.counted low.1 in record { small = (omega (arith, r.kept.1, low.0), omega (arith, f)); failed = omega (arith, r.kept.1); refused = omega (arith, f, low.1) }

rises : (whole : Type 0) (plan : PlanView) (steps : List Handed) (old new : Page) → Small old → ListsAll whole plan steps old new → Rises old new
rises whole plan [] old new low same = subst (λ (p : Page). Rises old p) (sym same) (record { small = low; failed = omega arith; refused = omega arith })
rises whole plan (h ∷ steps) old new low l =
    let one = rises_one whole (is_sent h) plan h old l.0 low l.1 in
    let more = rises whole plan steps l.0 new one.small l.2 in
    record { small = more.small; failed = omega (arith, one.failed, more.failed); refused = omega (arith, one.refused, more.refused) }

-- a step that is performed has no lines
sent_lines : (plan : PlanView) (step : Step) → is_sent_step step ≡ true → step_lines plan step ≡ []
sent_lines plan (Prepare (Toolchain v)) e = refl
sent_lines plan (Prepare (Lockfile v)) e = refl
sent_lines plan (Prepare (Clean v)) e = absurd (cc)
sent_lines plan (Skip place) e = absurd (cc)
sent_lines plan (Run place) e = absurd (cc)

one_listed : (whole : Type 0) (b : Bool) (plan : PlanView) (h : Handed) (old new : Page) → is_sent_step h.step ≡ b → old.failed ≡ 0 → old.refused ≡ 0 → new.failed ≡ 0 → new.refused ≡ 0 → ListsStep whole b plan h old new → IsWrittenStep h
one_listed whole true plan h old new is f r g s same = rw is refl
one_listed whole false plan h old new is f r g s (inl w) = rw is (ap is_failed w.passes)
one_listed whole false plan h old new is f r g s (inr (inl m)) = let e = m.counted (omega (arith, f)) in absurd (omega (arith, e, f, g))
one_listed whole false plan h old new is f r g s (inr (inr m)) = let e = m.counted (omega (arith, r)) in absurd (omega (arith, e, r, s))

-- where no line failed and no memory was refused, all steps of a list are listed
pub all_listed : (whole : Type 0) (plan : PlanView) (steps : List Handed) (old new : Page) → old.failed ≡ 0 → old.refused ≡ 0 → new.failed ≡ 0 → new.refused ≡ 0 → ListsAll whole plan steps old new → All IsWrittenStep steps
all_listed whole plan [] old new f r g s same = λ k d lt. absurd (omega arith)
all_listed whole plan (h ∷ steps) old new f r g s l =
    let low : Small old = (omega (arith, f), omega (arith, r)) in
    let one = rises_one whole (is_sent h) plan h old l.0 low l.1 in
    let more = rises whole plan steps l.0 new one.small l.2 in
    let mf : l.0.failed ≡ 0 = omega (arith, more.failed, g) in
    let mr : l.0.refused ≡ 0 = omega (arith, more.refused, s) in
    All-cons IsWrittenStep h steps (one_listed whole (is_sent h) plan h old l.0 refl f r mf mr l.1) (all_listed whole plan steps l.0 new mf mr g s l.2)

-- what is kept grows by nothing
kept_nothing : (a b : Option (List ℕ)) → Keeps a b → Appends a b []
kept_nothing None b k = tt
kept_nothing (Some x) None k = absurd k
kept_nothing (Some x) (Some y) k = k ∙ sym (append-nil x)

-- the lines of a step by its outcome
lines_by : (plan : PlanView) (h : Handed) (b : Bool) → is_failed h.outcome ≡ b → (if b then [] else step_lines plan h.step) ≡ lines_written plan h
lines_by plan h b is = rw is refl

one_passed : (whole : Type 0) (b : Bool) (plan : PlanView) (h : Handed) (old new : Page) → is_sent_step h.step ≡ b → whole → ListsStep whole b plan h old new → Appends old.contents new.contents (lines_written plan h)
one_passed whole true plan h old new is w same = subst (λ (p : Page). Appends old.contents p.contents (lines_written plan h)) (sym same) (subst (Appends old.contents old.contents) (none (is_failed h.outcome)) (Appends-nil old.contents))
  where
    none : (b : Bool) → [] ≡ (if b then [] else step_lines plan h.step)
    none true = refl
    none false = sym (sent_lines plan h.step is)
one_passed whole false plan h old new is w (inl p) = subst (Appends old.contents new.contents) (lines_by plan h false (ap is_failed p.passes)) p.written
one_passed whole false plan h old new is w (inr (inl m)) = subst (Appends old.contents new.contents) (lines_by plan h true (ap is_failed m.fails)) (kept_nothing old.contents new.contents (m.left w))
one_passed whole false plan h old new is w (inr (inr r)) = subst (Appends old.contents new.contents) (lines_by plan h true (ap is_failed r.fails)) (subst (λ (o : Option (List ℕ)). Appends old.contents o []) (sym r.kept.0) (Appends-nil old.contents))

-- where lines are written whole or not at all, a list writes just those of the steps that passed
pub passed_written : (whole : Type 0) (plan : PlanView) (steps : List Handed) (old new : Page) → whole → ListsAll whole plan steps old new → Appends old.contents new.contents (flat_map (lines_written plan) steps)
passed_written whole plan [] old new w same = subst (λ (p : Page). Appends old.contents p.contents []) (sym same) (Appends-nil old.contents)
passed_written whole plan (h ∷ steps) old new w l =
    Appends-trans old.contents l.0.contents new.contents (lines_written plan h) (flat_map (lines_written plan) steps) (one_passed whole (is_sent h) plan h old l.0 refl w l.1) (passed_written whole plan steps l.0 new w l.2)

-- a listed step passed, unless it is one that isn't listed
passed_by : (h : Handed) → is_sent_step h.step ≡ false → IsWrittenStep h → HasPassed h
passed_by h off listed = go h.outcome (rw off at listed)
  where
    go : (o : Outcome) → is_failed o ≡ false → o ≡ Passed
    go Passed e = refl
    go Failed e = absurd (cc)

-- where those that aren't listed passed, and the others are listed, all passed
pub all_handed : (steps : List Handed) → All HasPassed (filter is_sent steps) → All IsWrittenStep steps → All HasPassed steps
all_handed [] sent listed = λ k d lt. absurd (omega arith)
all_handed (h ∷ steps) sent listed = go (is_sent h) refl sent (λ l. all_handed steps l (All-tail IsWrittenStep h steps listed))
  where
    go : (b : Bool) → is_sent h ≡ b → All HasPassed (filter is_sent (h ∷ steps)) → (All HasPassed (filter is_sent steps) → All HasPassed steps) → All HasPassed (h ∷ steps)
    go true is all rest = let l = rw is at all in All-cons HasPassed h steps (All-head HasPassed h (filter is_sent steps) l) (rest (All-tail HasPassed h (filter is_sent steps) l))
    go false is all rest = let l = rw is at all in All-cons HasPassed h steps (passed_by h is (All-head IsWrittenStep h steps listed)) (rest l)

-- what a list wrote to its end, where what is gathered is written after it
wrote_end : (had has out : Option (List ℕ)) (text : List ℕ) → WritesText true true had has text → Keeps has out → WritesText true true had out text
wrote_end had has out text w kept = Appends-kept had has out text w kept

-- a list whose end was written: its output grew by its lines
pub list_ends : {T E : Type 0} (r : Result T E) (refused none short flushed quiet tells : Type 0) (cx : ContextRecord) (stable : Stable) (rustup : Name) (warned : Bool) (old mid : HostView) (begun gathered : List ℕ) (out : Option (List ℕ))
    → begun ≡ [] → OnOk r (refused × none × short × flushed) → (refused → none → short → quiet → tells → PerformsOne true true cx stable rustup warned (host_writing begun old) (host_writing gathered mid))
    → (flushed → Keeps (append_known mid.out gathered) out) → OnOk r (quiet → tells → PerformsOne true true cx stable rustup warned old (record mid { out = out }))
list_ends (Err e) refused none short flushed quiet tells cx stable rustup warned old mid begun gathered out empty came done kept = tt
list_ends (Ok v) refused none short flushed quiet tells cx stable rustup warned old mid begun gathered out empty came done kept = λ q t.
    let d = done came.0 came.1 came.2 q t in
    let start : append_known old.out begun ≡ old.out = ap (append_known old.out) empty ∙ known-none old.out in
    record {
      course = d.course;
      notes = d.notes;
      cut = d.cut;
      fails = d.fails;
      planned = d.planned;
      warns = d.warns;
      calls = d.calls;
      wrote = wrote_end old.out (append_known mid.out gathered) out (flat_map (lines_written d.course.plan) d.course.handed)
          (subst (λ (x : Option (List ℕ)). WritesText true true x (append_known mid.out gathered) (flat_map (lines_written d.course.plan) d.course.handed)) start d.wrote) (kept came.3);
      passed = d.passed;
      started = d.started;
      uncut = d.uncut;
      unreported = d.unreported;
      noted = d.noted;
      counted = d.counted;
    }

-- a list whose end was written, or a part of it
pub list_shows : (cx : ContextRecord) (stable : Stable) (rustup : Name) (old mid : HostView) (begun gathered left : List ℕ) (out : Option (List ℕ))
    → begun ≡ [] → PerformsAtMostOne true cx stable rustup (host_writing begun old) (host_writing gathered mid) → Keeps (append_known mid.out gathered) (append_known out left) → Extends old.out out → PerformsAtMostOne true cx stable rustup old (record mid { out = out })
list_shows cx stable rustup old mid begun gathered left out empty made kept grown = go made
  where
    shown : (text : List ℕ) → WritesText false true (append_known old.out begun) (append_known mid.out gathered) text → WritesText false true old.out out text
    shown text w = front_written old.out (append_known mid.out gathered) out left text (subst (λ (o : Option (List ℕ)). WritesText false true o (append_known mid.out gathered) text) (ap (append_known old.out) empty ∙ known-none old.out) w) kept grown

    go : PerformsAtMostOne true cx stable rustup (host_writing begun old) (host_writing gathered mid) → PerformsAtMostOne true cx stable rustup old (record mid { out = out })
    go (inl none) = inl (none.0, shown [] none.1)
    go (inr one) = inr (record {
      course = one.course;
      notes = one.notes;
      cut = one.cut;
      fails = one.fails;
      planned = one.planned;
      warns = one.warns;
      calls = one.calls;
      wrote = shown (flat_map (lines_written one.course.plan) one.course.handed) one.wrote;
      started = λ e. unended e;
      uncut = λ e. unended e;
      passed = λ e. unended e;
      unreported = one.unreported;
      noted = λ e. unended e;
      counted = λ e. unended e;
    })

-- a caller whose course the steps keep is in that course where a list was handed over
pub handed_in_course : {R S : Type 0} (whole : Type 0) (had has : Option (List ℕ)) (Told : List Note → R → R → Type 0) (Ran : PlanView → List Handed → R → R → Type 0) (cx : ContextRecord) (stable : Stable) (rustup : Name) (a b : R)
    → HandsOverAtMostOne whole had has Told Ran cx stable rustup a b → (state : R → S) (course : S → S → Type 0) → ((s : S) → course s s)
    → ((notes : List Note) (x y : R) → Told notes x y → state y ≡ state x) → ((plan : PlanView) (steps : List Handed) (x y : R) → Ran plan steps x y → course (state x) (state y)) → course (state a) (state b)
handed_in_course whole had has Told Ran cx stable rustup a b (inl (inl same, kept)) state course none told ran = subst (λ r. course (state a) (state r)) (sym same) (none (state a))
handed_in_course whole had has Told Ran cx stable rustup a b (inl (inr some, kept)) state course none told ran = subst (course (state a)) (sym (told some.0 a b some.1)) (none (state a))
handed_in_course whole had has Told Ran cx stable rustup a b (inr l) state course none told ran =
    subst (λ s. course s (state b)) (told l.notes a l.mid l.told) (ran l.course.plan (filter is_sent l.course.handed) l.mid b l.ran)

-- a list that was handed over to a runner whose steps make just their calls
pub handed_makes : {R : Type 0} (whole : Type 0) (had has : Option (List ℕ)) (Told : List Note → R → R → Type 0) (Ran : PlanView → List Handed → R → R → Type 0) (cx : ContextRecord) (stable : Stable) (rustup : Name) (a b : R)
    → HandsOverAtMostOne whole had has Told Ran cx stable rustup a b → whole
    → (calls : R → List Call) (refused : R → ℕ) (was now : Term) (fails : Bool) → ((notes : List Note) (x y : R) → Told notes x y → calls y ≡ calls x)
    → ((plan : PlanView) (steps : List Handed) (x y : R) → Ran plan steps x y → HasPerformed plan steps (calls x) (calls y) (refused x) (refused y))
    → PerformsAtMostOne true cx stable rustup (record { calls = calls a; out = had; term = was; fails = fails }) (record { calls = calls b; out = has; term = now; fails = fails })
handed_makes whole had has Told Ran cx stable rustup a b (inl (inl same, kept)) w calls refused was now fails told ran = inl (ap calls same, all_shown false had has [] (kept_nothing had has kept))
handed_makes whole had has Told Ran cx stable rustup a b (inl (inr some, kept)) w calls refused was now fails told ran = inl (told some.0 a b some.1, all_shown false had has [] (kept_nothing had has kept))
handed_makes whole had has Told Ran cx stable rustup a b (inr l) w calls refused was now fails told ran =
    let steps = filter is_sent l.course.handed in
    let did = ran l.course.plan steps l.mid b l.ran in
    inr (record {
      course = l.course;
      notes = l.notes;
      cut = did.cut;
      fails = false;
      planned = (performable cx.args.subcommand stable cx rustup l.course.plan l.notes l.planned, (l.driven, refl));
      warns = false;
      calls = subst (λ (cs : List Call). MakesCalls (λ made. PerformsAll l.course.plan steps made did.cut) cs (calls b)) (told l.notes a l.mid l.told) (record { made = did.made; grown = did.grown; such = did.performed });
      wrote = all_shown false had has (flat_map (lines_written l.course.plan) l.course.handed) (l.wrote w);
      started = λ e. unended e;
      uncut = λ e. unended e;
      passed = λ e. unended e;
      unreported = λ u. refl;
      noted = λ e. unended e;
      counted = λ e. unended e;
    })

-- where each step passed, none was cut short
none_cut : (plan : PlanView) (steps : List Handed) (calls : List Call) (cut : ℕ) → All HasPassed steps → PerformsAll plan steps calls cut → cut ≡ 0
none_cut plan [] calls cut all p = p.1
none_cut plan (h ∷ steps) calls cut all p =
    let rest = none_cut plan steps p.1 p.3 (All-tail HasPassed h steps all) p.7 in
    elim p.6 [
      | inl e ↦ omega (arith, p.5, e.1, rest)
      | inr m ↦ let e : Passed ≡ Failed = sym (All-head HasPassed h steps all) ∙ m.1 in absurd (cc)
    ]

-- where no refusal was counted, there was none
whole_count : (cut before now : ℕ) → GrowsBy cut before now → before ≡ 0 → now ≡ 0 → cut ≡ 0
whole_count cut before now grows first last = let e = grows (omega (arith, first)) in omega (arith, e, first, last)

-- what is handed out, where no search for conflicts is asked for
planned-apart : (IsPlan : PlanView → List Note → Type 0) (done : Bool) (cx : ContextRecord) (rustup : Name) (course : Course) (notes : List Note) (fails warns : Bool) → cx.args.find_conflicts ≡ false
    → IsPlan course.plan notes → IsHandedAsAsked done cx.args.find_rust_version cx course fails warns → IsPlannedAsAsked IsPlan done false cx rustup course notes fails warns
planned-apart IsPlan done cx rustup course notes fails warns off plan handed =
    subst (λ (b : Bool). MatchBool b (IsHuntedOut done cx rustup course notes fails warns) (IsPlan course.plan notes × IsHandedAsAsked done (b || cx.args.find_rust_version) cx course fails warns)) (sym off) (plan, handed)

-- the chosen piece's steps, where no search is asked for
pub planned_piece : (IsPlan : PlanView → List Note → Type 0) (done : Bool) (cx : ContextRecord) (rustup : Name) (course : Course) (notes : List Note) → cx.args.find_conflicts ≡ false → cx.args.find_rust_version ≡ false
    → IsPlan course.plan notes → IsDriven cx.args.partition cx.args.keep_going course → IsPlannedAsAsked IsPlan done false cx rustup course notes false false
planned_piece IsPlan done cx rustup course notes apart off plan driven =
    planned-apart IsPlan done cx rustup course notes false false apart plan (subst (λ (b : Bool). IsHandedAsAsked done b cx course false false) (sym off) (driven, refl))

-- a search's steps, where one for versions is asked for
pub planned_search : (IsPlan : PlanView → List Note → Type 0) (done : Bool) (cx : ContextRecord) (rustup : Name) (course : Course) (notes : List Note) (fails warns : Bool) → cx.args.find_conflicts ≡ false → cx.args.find_rust_version ≡ true
    → IsPlan course.plan notes → IsSearchedOut done cx course.plan course.handed fails warns → IsPlannedAsAsked IsPlan done false cx rustup course notes fails warns
planned_search IsPlan done cx rustup course notes fails warns apart on plan out =
    planned-apart IsPlan done cx rustup course notes fails warns apart plan (subst (λ (b : Bool). IsHandedAsAsked done b cx course fails warns) (sym on) out)

-- ... where one for conflicts is
pub planned_hunt : (IsPlan : PlanView → List Note → Type 0) (done : Bool) (cx : ContextRecord) (rustup : Name) (course : Course) (notes : List Note) (fails warns : Bool) → cx.args.find_conflicts ≡ true
    → IsHuntedOut done cx rustup course notes fails warns → IsPlannedAsAsked IsPlan done false cx rustup course notes fails warns
planned_hunt IsPlan done cx rustup course notes fails warns on out =
    subst (λ (b : Bool). MatchBool b (IsHuntedOut done cx rustup course notes fails warns) (IsPlan course.plan notes × IsHandedAsAsked done (b || cx.args.find_rust_version) cx course fails warns)) (sym on) out

planned-by : (b : Bool) (X P Q H : Type 0) → (P → Q) → MatchBool b X (P × H) → MatchBool b X (Q × H)
planned-by true X P Q H f x = x
planned-by false X P Q H f p = (f p.0, p.1)

-- no search is asked for
pub unsearched : (args : Args) → args.find_conflicts ≡ false → args.find_rust_version ≡ false → is_search false args ≡ false
unsearched args apart off = ap (λ b. b || args.find_rust_version) apart ∙ off

-- one for versions is asked for
pub searched : (args : Args) → args.find_conflicts ≡ false → args.find_rust_version ≡ true → is_search false args ≡ true
searched args apart on = ap (λ b. b || args.find_rust_version) apart ∙ on

-- one for conflicts is asked for
pub hunted : (args : Args) → args.find_conflicts ≡ true → is_search false args ≡ true
hunted args on = ap (λ b. b || args.find_rust_version) on

calls_from : (course : Course) (mid old new : List Call) (before now : ℕ) → mid ≡ old → (h : HasPerformed course.plan course.handed mid new before now) → MakesCalls (λ made. PerformsAll course.plan course.handed made h.cut) old new
calls_from course mid old new before now same h =
    subst (λ (calls : List Call). MakesCalls (λ made. PerformsAll course.plan course.handed made h.cut) calls new) same (record { made = h.made; grown = h.grown; such = h.performed })

-- one history of a plan, each step of which passed where no error was reported
pub runs_one : (cx : ContextRecord) (stable : Stable) (rustup : Name) (course : Course) (notes : List Note) (old new : HostView) (mid : List Call) (before now : ℕ) (term : Term) (fault : Option ProcessFault) → mid ≡ old.calls
    → IsPlanOf cx.args.subcommand stable cx rustup course.plan notes → cx.args.find_conflicts ≡ false → cx.args.find_rust_version ≡ false → IsDriven cx.args.partition cx.args.keep_going course → HasPerformed course.plan course.handed mid new.calls before now
    → (All HasPassed course.handed → MakesStarted mid new.calls) → (All HasPassed course.handed ⊎ HasTold term.error fault) → Warned notes old.term.warn new.term.warn → new.fails ≡ old.fails → fault ≡ None → term.error ≡ false → PerformsOne true false cx stable rustup old.term.warn old new
runs_one cx stable rustup course notes old new mid before now term fault same planned apart off driven performed started told warned kept none quiet = record {
  course = course;
  notes = notes;
  cut = performed.cut;
  fails = false;
  planned = planned_piece (IsPerformableOf cx.args.subcommand stable cx rustup) true cx rustup course notes apart off (performable cx.args.subcommand stable cx rustup course.plan notes planned) driven;
  warns = false;
  calls = calls_from course mid old.calls new.calls before now same performed;
  wrote = tt;
  started = λ e. subst (λ (calls : List Call). MakesStarted calls new.calls) same (started (all_passed course.handed term fault told none quiet));
  uncut = λ e. none_cut course.plan course.handed performed.made performed.cut (all_passed course.handed term fault told none quiet) performed.performed;
  passed = λ e u. all_passed course.handed term fault told none quiet;
  unreported = λ u. refl;
  noted = λ e. kept;
  counted = λ e. warned;
}

some_search : (cx : ContextRecord) (stable : Stable) (rustup : Name) (course : Course) (notes : List Note) (fails warns : Bool) (old new : HostView) (mid : List Call) (before now : ℕ) → mid ≡ old.calls
    → IsPlannedAsAsked (IsPerformableOf cx.args.subcommand stable cx rustup) true false cx rustup course notes fails warns → is_search false cx.args ≡ true → HasPerformed course.plan course.handed mid new.calls before now → MakesStarted mid new.calls
    → before ≡ 0 → now ≡ 0 → new.fails ≡ (fails || old.fails) → Warned notes (warns || old.term.warn) new.term.warn → PerformsOne true false cx stable rustup old.term.warn old new
some_search cx stable rustup course notes fails warns old new mid before now same planned on performed started first last kept warned = record {
  course = course;
  notes = notes;
  cut = performed.cut;
  fails = fails;
  warns = warns;
  planned = planned;
  calls = calls_from course mid old.calls new.calls before now same performed;
  wrote = tt;
  started = λ e. subst (λ (calls : List Call). MakesStarted calls new.calls) same started;
  uncut = λ e. whole_count performed.cut before now performed.counted first last;
  passed = λ e off. absurd (true≢false (sym on ∙ off));
  unreported = λ off. absurd (true≢false (sym on ∙ off));
  noted = λ e. kept;
  counted = λ e. warned;
}

-- one search for conflicts, where no error was reported
pub hunts_one : (cx : ContextRecord) (stable : Stable) (rustup : Name) (course : Course) (notes : List Note) (fails warns : Bool) (old new : HostView) (mid : List Call) (before now : ℕ) → mid ≡ old.calls
    → cx.args.find_conflicts ≡ true → IsHuntedOut true cx rustup course notes fails warns → HasPerformed course.plan course.handed mid new.calls before now → MakesStarted mid new.calls
    → before ≡ 0 → now ≡ 0 → new.fails ≡ (fails || old.fails) → Warned notes (warns || old.term.warn) new.term.warn → PerformsOne true false cx stable rustup old.term.warn old new
hunts_one cx stable rustup course notes fails warns old new mid before now same on out performed started first last kept warned =
    some_search cx stable rustup course notes fails warns old new mid before now same (planned_hunt (IsPerformableOf cx.args.subcommand stable cx rustup) true cx rustup course notes fails warns on out) (hunted cx.args on) performed started first last kept warned

-- one search for versions, where no error was reported
pub searches_one : (cx : ContextRecord) (stable : Stable) (rustup : Name) (course : Course) (notes : List Note) (fails warns : Bool) (old new : HostView) (mid : List Call) (before now : ℕ) → mid ≡ old.calls
    → IsPlanOf cx.args.subcommand stable cx rustup course.plan notes → cx.args.find_conflicts ≡ false → cx.args.find_rust_version ≡ true → IsSearchedOut true cx course.plan course.handed fails warns → HasPerformed course.plan course.handed mid new.calls before now → MakesStarted mid new.calls
    → before ≡ 0 → now ≡ 0 → new.fails ≡ (fails || old.fails) → Warned notes (warns || old.term.warn) new.term.warn → PerformsOne true false cx stable rustup old.term.warn old new
searches_one cx stable rustup course notes fails warns old new mid before now same planned apart on out performed started first last kept warned =
    some_search cx stable rustup course notes fails warns old new mid before now same (planned_search (IsPerformableOf cx.args.subcommand stable cx rustup) true cx rustup course notes fails warns apart on (performable cx.args.subcommand stable cx rustup course.plan notes planned) out) (searched cx.args apart on) performed started first last kept warned

-- what was handed out, whatever came of its steps
pub runs_some : (cx : ContextRecord) (stable : Stable) (rustup : Name) (course : Course) (notes : List Note) (old new : HostView) (mid : List Call) (before now : ℕ) → mid ≡ old.calls
    → IsPlannedAsAsked (IsPlanOf cx.args.subcommand stable cx rustup) false false cx rustup course notes false false → HasPerformed course.plan course.handed mid new.calls before now → PerformsAtMostOne false cx stable rustup old new
runs_some cx stable rustup course notes old new mid before now same planned performed = inr (record {
  course = course;
  notes = notes;
  cut = performed.cut;
  fails = false;
  planned = planned-by cx.args.find_conflicts (IsHuntedOut false cx rustup course notes false false) _ _ (IsHandedAsAsked false (is_search false cx.args) cx course false false) (performable cx.args.subcommand stable cx rustup course.plan notes) planned;
  warns = false;
  calls = calls_from course mid old.calls new.calls before now same performed;
  wrote = tt;
  started = λ e. unended e;
  uncut = λ e. unended e;
  passed = λ e. unended e;
  unreported = λ u. refl;
  noted = λ e. unended e;
  counted = λ e. unended e;
})

-- a list that was handed over, each step of which passed or was listed where no error was reported
pub lists_one : {R : Type 0} (had has : Option (List ℕ)) (Told : List Note → R → R → Type 0) (Ran : PlanView → List Handed → R → R → Type 0) (cx : ContextRecord) (stable : Stable) (rustup : Name) (a b : R) (l : ListsOver (Unit {0}) had has Told Ran cx stable rustup a b)
    → (calls : R → List Call) (before now : ℕ) (was term : Term) (fails : Bool) (fault : Option ProcessFault) → calls l.over.mid ≡ calls a → HasPerformed l.over.course.plan (filter is_sent l.over.course.handed) (calls l.over.mid) (calls b) before now
    → (All HasPassed (filter is_sent l.over.course.handed) → MakesStarted (calls l.over.mid) (calls b)) → (All HasPassed (filter is_sent l.over.course.handed) ⊎ HasTold term.error fault) → Warned l.over.notes was.warn term.warn → fault ≡ None → term.error ≡ false
    → PerformsOne true true cx stable rustup was.warn (record { calls = calls a; out = had; term = was; fails = fails }) (record { calls = calls b; out = has; term = term; fails = fails })
lists_one had has Told Ran cx stable rustup a b l calls before now was term fails fault same performed started told warned none quiet = record {
  course = l.over.course;
  notes = l.over.notes;
  cut = performed.cut;
  fails = false;
  planned = (performable cx.args.subcommand stable cx rustup l.over.course.plan l.over.notes l.over.planned, (l.over.driven, refl));
  warns = false;
  calls = subst (λ (cs : List Call). MakesCalls (λ made. PerformsAll l.over.course.plan (filter is_sent l.over.course.handed) made performed.cut) cs (calls b)) same (record { made = performed.made; grown = performed.grown; such = performed.performed });
  wrote = all_shown true had has (flat_map (lines_written l.over.course.plan) l.over.course.handed) (l.over.wrote tt);
  started = λ e. subst (λ (cs : List Call). MakesStarted cs (calls b)) same (started (all_passed (filter is_sent l.over.course.handed) term fault told none quiet));
  uncut = λ e. none_cut l.over.course.plan (filter is_sent l.over.course.handed) performed.made performed.cut (all_passed (filter is_sent l.over.course.handed) term fault told none quiet) performed.performed;
  passed = λ e u. all_handed l.over.course.handed (all_passed (filter is_sent l.over.course.handed) term fault told none quiet) l.listed;
  unreported = λ u. refl;
  noted = λ e. refl;
  counted = λ e. warned;
}

-- whatever is noted afterwards, one history at most was performed
pub some_told : (listing : Bool) (cx : ContextRecord) (stable : Stable) (rustup : Name) (old new : HostView) (now : Term) → PerformsAtMostOne listing cx stable rustup old new
    → PerformsAtMostOne listing cx stable rustup old (record new { term = now })
some_told listing cx stable rustup old new now (inl h) = inl h
some_told listing cx stable rustup old new now (inr h) = inr (one_told false listing cx stable rustup old.term.warn old new old.term now (λ e. unended e) h)
