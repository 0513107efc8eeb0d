-- What a call did, put together from its stages.
use Rattle.std.proofs.Common.{◌≡◌, ◌⊎◌, inl, inr, refl, sym, subst, ◌∙◌, ap, string_bytes, ℕ, Bool, true, false, List, [], append-nil, Option, Result, Ok, Err, OnOk, OnErr, IsErr, IsTrue, Global, String}
use Rattle.std.specs.Prelude.{◌||◌}
use Rattle.std.specs.Result.{is_err}
use Rattle.std.specs.Io.KnownBytes.{Appends}
use Rattle.hack_base.specs.Names.{Name}
use Rattle.hack_base.specs.Notes.{Note}
use Rattle.hack_base.specs.Writes.{AppendsFront}
use Rattle.hack_files.specs.Files.{Contents, KeepsAll}
use Rattle.hack_load.specs.ContextOf.{IsContextFrom}
use Rattle.hack_load.specs.Contexts.{ContextRecord}
use Rattle.hack_load.specs.declared.answers.Answers.{Answers}
use Rattle.hack_load.specs.declared.fault.ContextFault.{ContextFault}
use Rattle.hack_load.specs.declared.loaded.Loaded.{Loaded}
use Rattle.hack_prepare.specs.Prepared.{IsPrepared}
use Rattle.hack_prepare.specs.PreparedView.{member_manifests_in, wanted_in}
use Rattle.hack_prepare.proofs.RootLemmas.{prepared-moved}
use Rattle.hack_process.specs.Calls.{Call, IsSuccess, MayAdd}
use Rattle.hack_process.specs.Faults.{GotAnswer}
use Rattle.hack_process.specs.declared.fault.ProcessFault.{ProcessFault}
use Rattle.hack_process.specs.declared.fault.ProcessFault.TheVariants as process
use Rattle.hack_session.proofs.CallLemmas.{EndsOrIsCut}
use Rattle.hack_session.specs.StepCalls.{MakesCalls}
use Rattle.hack_session.specs.declared.step.Outcome.{Outcome}
use Rattle.hack_session.specs.declared.step.Outcome.TheVariants.{Failed}
use Rattle.hack_term.specs.declared.term.Term.{Term}
use Rattle.hack_versions.specs.declared.rustup.Rustup.{Rustup}
use Rattle.hack_planner.specs.declared.stable.Stable.{Stable}
use Rattle.hack_planner.specs.declared.stable.Stable.TheVariants.{Unasked}
use Rattle.hack_words.specs.ParseAnswers.{AnswersCommandLine as IsAnswer, around_of}
use Rattle.hack_words.specs.CommandLine.{ComesTo}
use Rattle.hack_words.specs.Start.{wants_rustup}
use Rattle.hack_words.specs.declared.cli.args.Args.{Args}
use Rattle.hack_words.specs.declared.cli.env.Env.{Env}
use Rattle.hack_words.specs.declared.cli.parse.Parsed.{Parsed}
use Rattle.hack_words.specs.declared.cli.parse.Parsed.TheVariants as parsed
use Rattle.hack_run.specs.CallTrace.{AfterLoading, IsCallTrace, LoadsAndPerforms, Obeys, PerformsOne, PerformsPlan, ReadsAndObeys, Stops, WritesText, listing_asked, warned_by}
use Rattle.hack_run.specs.Internal.{PerformsAtMostOne}
use Rattle.hack_run.specs.Loading.{AreLoaded}
use Rattle.hack_drive.specs.Answered.{NeedsAnswer}
use Rattle.hack_run.specs.Questions.{AsksRustup, AsksStable, MayAskStable, rustup_asked}
use Rattle.hack_drive.specs.Warnings.{Warned, after_notes, have_warning}
use Rattle.std.proofs.KnownBytes.{Appends-nil}
use Rattle.hack_files.specs.View.{FilesView}
use Rattle.hack_run.specs.Worlds.{HostView, World, host_at, world_at}

-- calls that end with an error failed, or memory was refused
pub fails : {T : Type 0} (tells : Type 0) (Ended : List Call → Outcome → Type 0) (Cut : List Call → Type 0) (old new : List Call) (r : Result T ProcessFault)
    → (tells → MakesCalls (λ calls. EndsOrIsCut (Ended calls) (Cut calls) r) old new) → OnErr r (tells → MakesCalls (λ calls. Ended calls Failed ⊎ Cut calls) old new)
fails tells Ended Cut old new (Ok done) h = tt
fails tells Ended Cut old new (Err process.Memory) h = λ t. let m = h t in record { made = m.made; grown = m.grown; such = inr m.such }
fails tells Ended Cut old new (Err process.EmptyProgram) h = λ t. let m = h t in record { made = m.made; grown = m.grown; such = inl m.such }
fails tells Ended Cut old new (Err (process.NeverExecuted text)) h = λ t. let m = h t in record { made = m.made; grown = m.grown; such = inl m.such }
fails tells Ended Cut old new (Err (process.NotText text)) h = λ t. let m = h t in record { made = m.made; grown = m.grown; such = inl m.such }
fails tells Ended Cut old new (Err (process.Failed failure)) h = λ t. let m = h t in record { made = m.made; grown = m.grown; such = inl m.such }

-- a call that an error may have ended promises nothing of its end
pub unended : {A : Type 0} → false ≡ true → A
unended e = absurd (cc)

pub on_ok : {T E : Type 0} (P Q : Type 0) (r : Result T E) → (P → Q) → OnOk r P → OnOk r Q
on_ok P Q (Ok v) f p = f p
on_ok P Q (Err e) f p = tt

-- a whole text is a front of it
pub all_shown : (done : Bool) (a b : Option (List ℕ)) (text : List ℕ) → Appends a b text → WritesText done true a b text
all_shown true a b text w = w
all_shown false a b text w = (text, [], sym (append-nil text), w)

-- nothing is printed
pub shows_nothing : (listing : Bool) (had : Option (List ℕ)) → WritesText false listing had had []
shows_nothing true had = ([], [], refl, Appends-nil had)
shows_nothing false had = tt

-- ---- what was reported before doesn't matter, nor after it where no more is warned of

pub one_told : (done listing : Bool) (cx : ContextRecord) (stable : Stable) (rustup : Name) (warned : Bool) (old new : HostView) (was now : Term) → (done ≡ true → now.warn ≡ new.term.warn)
    → PerformsOne done listing cx stable rustup warned old new → PerformsOne done listing cx stable rustup warned (record old { term = was }) (record new { term = now })
one_told done listing cx stable rustup warned old new was now same h = record {
  course = h.course;
  notes = h.notes;
  cut = h.cut;
  fails = h.fails;
  planned = h.planned;
  warns = h.warns;
  calls = h.calls;
  wrote = h.wrote;
  started = h.started;
  uncut = h.uncut;
  passed = h.passed;
  unreported = h.unreported;
  noted = h.noted;
  counted = λ d. subst (λ (b : Bool). Warned h.notes (h.warns || warned) b) (sym (same d)) (h.counted d);
}

-- ... nor whether a warning was noted before, where an error may have ended the call
pub one_made : (listing : Bool) (cx : ContextRecord) (stable : Stable) (rustup : Name) (warned other : Bool) (old new : HostView) (was now : Term)
    → PerformsOne false listing cx stable rustup warned old new → PerformsOne false listing cx stable rustup other (record old { term = was }) (record new { term = now })
one_made listing cx stable rustup warned other old new was now h =
    record { course = h.course; notes = h.notes; cut = h.cut; fails = h.fails; warns = h.warns; planned = h.planned; calls = h.calls; wrote = h.wrote; started = λ e. unended e; uncut = λ e. unended e; passed = λ e. unended e; unreported = h.unreported; noted = λ e. unended e; counted = λ e. unended e }

pub plan_told : (done : Bool) (cx : ContextRecord) (rustup : Name) (warned : Bool) (old new : HostView) (was now : Term) → (done ≡ true → now.warn ≡ new.term.warn)
    → PerformsPlan done cx rustup warned old new → PerformsPlan done cx rustup warned (record old { term = was }) (record new { term = now })
plan_told done cx rustup warned old new was now same (inl stopped) = inl stopped
plan_told done cx rustup warned old new was now same (inr h) = inr (h.0, h.1, h.2, h.3, one_told done cx.args.print_command_list cx h.1 rustup warned (host_at h.0 old) new was now same h.4)

-- what is held may be the same in other files, before and in the end
abbrev Moves : Type 0 → Type 0 → Args → Contents → Contents → Contents → Contents → Type 0
Moves T U args first asked prepared last = U → T × KeepsAll first asked × (args.remove_dev_deps ≡ true → KeepsAll prepared last)

pub after_moved : (done : Bool) (T U : Type 0) (args : Args) (answers : Answers) (rustup : Name) (warned : Bool) (first asked prepared last : FilesView) (begun ended : HostView) (was now : Term)
    → (done ≡ true → (l : Loaded) → answers.loaded ≡ Ok l → Moves T U args first.held asked.held prepared.held last.held) → (done ≡ true → now.warn ≡ ended.term.warn)
    → AfterLoading done T args answers rustup warned (record { files = asked; host = begun }) (record { files = prepared; host = ended })
    → AfterLoading done U args answers rustup warned (record { files = first; host = record begun { term = was } }) (record { files = last; host = record ended { term = now } })
after_moved done T U args answers rustup warned first asked prepared last begun ended was now moves same (inl stopped) = inl stopped
after_moved done T U args answers rustup warned first asked prepared last begun ended was now moves same (inr h) = inr (
  h.0,
  h.1,
  plan_told done h.0 rustup (is_err answers.cargo_version || warned) begun ended was now same h.2,
  λ d u e. let m = moves d h.1.0 h.1.1 u in prepared-moved (wanted_in h.0) (member_manifests_in h.0) first.held asked.held prepared.held last.held m.1 (m.2 e) (h.3 d m.0 e),
)

-- what arguments ask for was done in files that hold the same in the end
loads_moved : (done : Bool) (T : Type 0) (args : Args) (env : Env) (warned : Bool) (old new : World) (later : FilesView) (was now : Term)
    → (done ≡ true → T → KeepsAll new.files.held later.held) → (done ≡ true → now.warn ≡ new.host.term.warn)
    → LoadsAndPerforms done T args env warned old new
    → LoadsAndPerforms done T args env warned (record old { host = record old.host { term = was } }) (record { files = later; host = record new.host { term = now } })
loads_moved done T args env warned old new later was now held same h = record {
  answers = h.answers;
  mid = h.mid;
  asked = h.asked;
  behind = after_moved done T T args h.answers (string_bytes env.rustup) warned old.files old.files new.files later (host_at h.mid old.host) new.host was now
      (λ d l is t. (t, (λ q. refl), (λ e. held d t))) same h.behind;
}

-- ---- a call

-- where no error is reported in the end, none was before
pub quiet_before : (X : Type 0) (before now : Bool) → (IsTrue before ⊎ X → IsTrue now) → now ≡ false → before ≡ false
quiet_before X true now f quiet = let e : true ≡ false = sym (f (inl refl)) ∙ quiet in absurd (cc)
quiet_before X false now f quiet = refl

-- after stable's version was asked for, the plan
pub goes_on : (T : Type 0) (args : Args) (answers : Answers) (rustup : Name) (warned : Bool) (old new : World) (cx : ContextRecord) (stable : Stable) (mid : List Call) (term : Term)
    → IsContextFrom args answers cx → MayAskStable rustup old.host.calls mid → (¬ NeedsAnswer cx.args → mid ≡ old.host.calls) → (¬ NeedsAnswer cx.args → stable ≡ Unasked) → AsksStable rustup stable old.host.calls mid
    → PerformsAtMostOne cx.args.print_command_list cx stable rustup (record (host_at mid old.host) { term = term }) new.host → AfterLoading false T args answers rustup warned old new
goes_on T args answers rustup warned old new cx stable mid term context asked needed unasked told performed = inr (cx, context, go performed, λ e. unended e)
  where
    go : PerformsAtMostOne cx.args.print_command_list cx stable rustup (record (host_at mid old.host) { term = term }) new.host
        → PerformsPlan false cx rustup (is_err answers.cargo_version || warned) old.host new.host
    go (inl same) = inl (mid, asked, needed, refl, same.0, same.1)
    go (inr one) = inr (mid, stable, told, unasked, one_made cx.args.print_command_list cx stable rustup term.warn (is_err answers.cargo_version || warned) (record (host_at mid old.host) { term = term }) new.host old.host.term new.host.term one)

-- the same to the end
pub plan_follows : {T E : Type 0} (tells quiet : Type 0) (r : Result T E) (cx : ContextRecord) (rustup : Name) (warned : Bool) (old new : HostView) (mid : List Call) (term : Term) (stable : Stable)
    → term.warn ≡ warned → (¬ NeedsAnswer cx.args → stable ≡ Unasked) → (tells → AsksStable rustup stable old.calls mid)
    → OnOk r (quiet → tells → PerformsOne true cx.args.print_command_list cx stable rustup term.warn (record (host_at mid old) { term = term }) new)
    → OnOk r (quiet → tells → PerformsPlan true cx rustup warned old new)
plan_follows tells quiet r cx rustup warned old new mid term stable same unasked stable_told ran =
    on_ok (quiet → tells → PerformsOne true cx.args.print_command_list cx stable rustup term.warn (record (host_at mid old) { term = term }) new) (quiet → tells → PerformsPlan true cx rustup warned old new) r
    (λ runs q t. inr (
      mid,
      stable,
      stable_told t,
      unasked,
      subst (λ (b : Bool). PerformsOne true cx.args.print_command_list cx stable rustup b (host_at mid old) new) same
          (one_told true cx.args.print_command_list cx stable rustup term.warn (record (host_at mid old) { term = term }) new old.term new.term (λ d. refl) (runs q t)),
    )) ran

pub follows : {T E : Type 0} (tells told quiet : Type 0) (r : Result T E) (args : Args) (answers : Answers) (rustup : Name) (warned : Bool) (old new : World) (cx : ContextRecord)
    → (told → IsPrepared (wanted_in cx) (member_manifests_in cx) old.files.held new.files.held) → IsContextFrom args answers cx
    → OnOk r (quiet → tells → PerformsPlan true cx rustup (is_err answers.cargo_version || warned) old.host new.host) → OnOk r (quiet → tells → AfterLoading true told args answers rustup warned old new)
follows tells told quiet r args answers rustup warned old new cx prepared context planned =
    on_ok (quiet → tells → PerformsPlan true cx rustup (is_err answers.cargo_version || warned) old.host new.host) (quiet → tells → AfterLoading true told args answers rustup warned old new) r
    (λ plan q t. inr (cx, context, plan q t, λ d u e. prepared u)) planned

-- a call continued after its questions were answered
pub performs : {T E : Type 0} (tells told holds X : Type 0) (r : Result T E) (args : Args) (env : Env) (first asked prepared last : FilesView) (begun ended : HostView) (mid : List Call) (term : Term) (answers : Answers)
    → term.warn ≡ ended.term.warn
    → (tells → AreLoaded told args env first.held begun.calls mid answers)
    → (IsTrue ended.term.error ⊎ X → IsTrue term.error)
    → (told → holds) → OnOk answers.loaded (told → KeepsAll first.held asked.held) → (told → args.remove_dev_deps ≡ true → KeepsAll prepared.held last.held)
    → OnOk r (ended.term.error ≡ false → tells → AfterLoading true holds args answers (string_bytes env.rustup) begun.term.warn (record { files = asked; host = host_at mid begun }) (record { files = prepared; host = ended }))
    → OnOk r (term.error ≡ false → tells → LoadsAndPerforms true told args env begun.term.warn (record { files = first; host = begun }) (record { files = last; host = record ended { term = term } }))
performs tells told holds X r args env first asked prepared last begun ended mid term answers same_warn answered noted held whole stay follows =
    on_ok (ended.term.error ≡ false → tells → AfterLoading true holds args answers (string_bytes env.rustup) begun.term.warn (record { files = asked; host = host_at mid begun }) (record { files = prepared; host = ended }))
    (term.error ≡ false → tells → LoadsAndPerforms true told args env begun.term.warn (record { files = first; host = begun }) (record { files = last; host = record ended { term = term } })) r
    (λ f quiet t. record {
      answers = answers;
      mid = mid;
      asked = answered t;
      behind = after_moved true holds told args answers (string_bytes env.rustup) begun.term.warn first asked prepared last (host_at mid begun) ended begun.term term
          (λ d l is u. (held u, subst (λ (a : Result Loaded ContextFault). OnOk a (told → KeepsAll first.held asked.held)) is whole u, stay u)) (λ d. same_warn) (f (quiet_before X ended.term.error term.error noted quiet) t);
    }) follows

-- the same, wherever an error ended it
pub made : (told : Type 0) (args : Args) (env : Env) (first asked prepared last : FilesView) (begun ended : HostView) (mid : List Call) (term : Term) (answers : Answers) → AreLoaded told args env first.held begun.calls mid answers
    → AfterLoading false told args answers (string_bytes env.rustup) begun.term.warn (record { files = asked; host = host_at mid begun }) (record { files = prepared; host = ended })
    → LoadsAndPerforms false told args env begun.term.warn (record { files = first; host = begun }) (record { files = last; host = record ended { term = term } })
made told args env first asked prepared last begun ended mid term answers answered follows = record {
  answers = answers;
  mid = mid;
  asked = answered;
  behind = after_moved false told told args answers (string_bytes env.rustup) begun.term.warn first asked prepared last (host_at mid begun) ended begun.term term (λ e. unended e) (λ e. unended e) follows;
}

-- a call that reported no error in the end returned none
pub comes : {T E : Type 0} (X : Term → Type 0) (r : Result T E) (before now : Term) → OnOk r (before.error ≡ false → X before) → OnOk r (now ≡ before) → OnErr r (now.error ≡ true) → now.error ≡ false → X now
comes X (Ok v) before now x same told quiet = subst X (sym same) (x (sym (ap (λ (k : Term). k.error) same) ∙ quiet))
comes X (Err e) before now x same told quiet = let e : true ≡ false = sym told ∙ quiet in absurd (cc)

-- a call that returned an error reported one
pub told_fault : {T E : Type 0} (r : Result T E) (now : Term) → OnErr r (now.error ≡ true) → IsErr r → now.error ≡ true
told_fault (Ok v) now told is = absurd (cc)
told_fault (Err e) now told is = told

-- after the notices on the arguments
pub dressed : (old middle now : Term) (answer : Parsed) (args : Args) (notes : List Note) → answer ≡ parsed.Args args → middle.warn ≡ old.warn → now ≡ after_notes middle notes → now.warn ≡ warned_by answer notes old.warn
dressed old middle now answer args notes is same told =
    subst (λ (a : Parsed). now.warn ≡ warned_by a notes old.warn) (sym is) (ap (λ (k : Term). k.warn) told ∙ ap (λ (b : Bool). have_warning notes || b) same)

-- what arguments ask for was done after their notices
pub obeys : (done : Bool) (told : Type 0) (args : Args) (answer : Parsed) (env : Env) (warned : Bool) (old new : World) (was : Term) → answer ≡ parsed.Args args → was.warn ≡ warned
    → LoadsAndPerforms done told args env was.warn (record old { host = record old.host { term = was } }) new → Obeys done told answer env warned old new
obeys done told args answer env warned old new was is same h =
    subst (λ (a : Parsed). Obeys done told a env warned old new) (sym is)
    (subst (λ (b : Bool). LoadsAndPerforms done told args env b old new) same
    (loads_moved done told args env was.warn (record old { host = record old.host { term = was } }) new new.files old.host.term new.host.term (λ d t q. refl) (λ d. refl) h))

pub obeys_done : {T E : Type 0} (tells told quiet : Type 0) (r : Result T E) (args : Args) (answer : Parsed) (env : Env) (warned : Bool) (old new : World) (was : Term) → answer ≡ parsed.Args args → was.warn ≡ warned
    → OnOk r (quiet → tells → LoadsAndPerforms true told args env was.warn (record old { host = record old.host { term = was } }) new)
    → OnOk r (quiet → tells → Obeys true told answer env warned old new)
obeys_done tells told quiet r args answer env warned old new was is same performed =
    on_ok (quiet → tells → LoadsAndPerforms true told args env was.warn (record old { host = record old.host { term = was } }) new)
    (quiet → tells → Obeys true told answer env warned old new) r (λ f q t. obeys true told args answer env warned old new was is same (f q t)) performed

-- a text was printed, and nothing is warned of
pub prints : {T E : Type 0} (tells told quiet : Type 0) (r : Result T E) (answer : Parsed) (text : String Global) (notes : List Note) (env : Env) (old new : World) → answer ≡ parsed.Print text
    → new.host.calls ≡ old.host.calls → new.host.term.warn ≡ old.host.term.warn → new.host.fails ≡ old.host.fails → OnOk r (Appends old.host.out new.host.out (string_bytes text))
    → OnOk r (quiet → tells → Obeys true told answer env (warned_by answer notes old.host.term.warn) old new)
prints tells told quiet r answer text notes env old new is calls same kept wrote =
    subst (λ (a : Parsed). OnOk r (quiet → tells → Obeys true told a env (warned_by a notes old.host.term.warn) old new)) (sym is)
    (on_ok (Appends old.host.out new.host.out (string_bytes text)) (quiet → tells → Obeys true told (parsed.Print text) env old.host.term.warn old new) r (λ w q t. (calls, all_shown true old.host.out new.host.out (string_bytes text) w, λ d. (same, kept))) wrote)

pub prints_made : (told : Type 0) (answer : Parsed) (text : String Global) (env : Env) (warned : Bool) (old new : World) → answer ≡ parsed.Print text → new.host.calls ≡ old.host.calls → AppendsFront old.host.out new.host.out (string_bytes text)
    → Obeys false told answer env warned old new
prints_made told answer text env warned old new is calls front =
    subst (λ (a : Parsed). Obeys false told a env warned old new) (sym is) (calls, front, λ e. unended e)

-- cargo listed its commands, and nothing more is warned of
pub lists : {T E : Type 0} (tells told quiet : Type 0) (r : Result T E) (answer : Parsed) (env : Env) (warned : Bool) (old new : World) → answer ≡ parsed.List → new.host.term.warn ≡ warned → new.host.fails ≡ old.host.fails → new.host.out ≡ old.host.out
    → OnOk r (tells → GotAnswer (λ answer. IsSuccess answer.end) (listing_asked (string_bytes env.cargo)) old.host.calls new.host.calls)
    → OnOk r (quiet → tells → Obeys true told answer env warned old new)
lists tells told quiet r answer env warned old new is same kept out listed =
    subst (λ (a : Parsed). OnOk r (quiet → tells → Obeys true told a env warned old new)) (sym is)
    (on_ok (tells → GotAnswer (λ answer. IsSuccess answer.end) (listing_asked (string_bytes env.cargo)) old.host.calls new.host.calls) (quiet → tells → Obeys true told parsed.List env warned old new) r
    (λ f q t. let got = f t in (inr (got.0, got.2), out, λ d. (same, kept, got))) listed)

pub lists_made : (told : Type 0) (answer : Parsed) (env : Env) (warned : Bool) (old new : World) → answer ≡ parsed.List → new.host.out ≡ old.host.out → MayAdd (listing_asked (string_bytes env.cargo)) old.host.calls new.host.calls
    → Obeys false told answer env warned old new
lists_made told answer env warned old new is out may = subst (λ (a : Parsed). Obeys false told a env warned old new) (sym is) (may, out, λ e. unended e)

-- the command line was parsed, and what it asks for was done
pub done : {T E : Type 0} (tells told quiet : Type 0) (r : Result T E) (words : List Name) (env : Env) (old new : World) (mid : List Call) (rustup : Rustup) (answer : Parsed) (notes : List Note)
    → (tells → MayAdd (rustup_asked (string_bytes env.rustup)) old.host.calls mid) → (wants_rustup words ≡ false → mid ≡ old.host.calls)
    → IsAnswer (around_of env rustup) (ComesTo (around_of env rustup) words) answer notes → (tells → AsksRustup (wants_rustup words) (string_bytes env.rustup) rustup old.host.calls mid)
    → OnOk r (quiet → tells → Obeys true told answer env (warned_by answer notes old.host.term.warn) (world_at mid old) new)
    → OnOk r (quiet → tells → IsCallTrace true told words env old new)
done tells told quiet r words env old new mid rustup answer notes may needed read asked obeyed =
    on_ok (quiet → tells → Obeys true told answer env (warned_by answer notes old.host.term.warn) (world_at mid old) new) (quiet → tells → IsCallTrace true told words env old new) r
    (λ f q t. record { mid = mid; asked = may t; needed = needed; behind = inr (record { rustup = rustup; answer = answer; notes = notes; told = asked t; read = read; obeyed = f q t }) }) obeyed

-- ---- a call over files that hold the same in the end, and what was reported last

obeys_moved : (done : Bool) (T : Type 0) (answer : Parsed) (env : Env) (warned : Bool) (old new : World) (later : FilesView) (now : Term) → (done ≡ true → T → KeepsAll new.files.held later.held) → (done ≡ true → now.warn ≡ new.host.term.warn)
    → Obeys done T answer env warned old new → Obeys done T answer env warned old (record { files = later; host = record new.host { term = now } })
obeys_moved done T (parsed.Args args) env warned old new later now held same h = loads_moved done T args env warned old new later old.host.term now held same h
obeys_moved done T (parsed.Print text) env warned old new later now held same h = (h.0, h.1, λ d. (same d ∙ (h.2 d).0, (h.2 d).1))
obeys_moved done T parsed.List env warned old new later now held same h = (h.0, h.1, λ d. let w = h.2 d in (same d ∙ w.0, w.1, w.2))

pub call_moved : (done : Bool) (T : Type 0) (words : List Name) (env : Env) (old new : World) (later : FilesView) (now : Term) → (done ≡ true → T → KeepsAll new.files.held later.held) → (done ≡ true → now.warn ≡ new.host.term.warn)
    → IsCallTrace done T words env old new → IsCallTrace done T words env old (record { files = later; host = record new.host { term = now } })
call_moved done T words env old new later now held same h = record { mid = h.mid; asked = h.asked; needed = h.needed; behind = go h.behind }
  where
    go : Stops done h.mid old.host new.host ⊎ ReadsAndObeys done T words env h.mid old new
        → Stops done h.mid old.host (record new.host { term = now }) ⊎ ReadsAndObeys done T words env h.mid old (record { files = later; host = record new.host { term = now } })
    go (inl stopped) = inl stopped
    go (inr r) = inr (record {
      rustup = r.rustup;
      answer = r.answer;
      notes = r.notes;
      told = r.told;
      read = r.read;
      obeyed = obeys_moved done T r.answer env (warned_by r.answer r.notes old.host.term.warn) (world_at h.mid old) new later now held same r.obeyed;
    })

-- files that hold the same keep all
pub keeps_same : (old new : Contents) → old ≡ new → KeepsAll old new
keeps_same old new same = λ q. ap (λ (held : Contents). held q) (sym same)
