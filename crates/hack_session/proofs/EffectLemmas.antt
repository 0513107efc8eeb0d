-- What the parts of steps do.
use Rattle.std.proofs.Common.{◌≡◌, ◌≢◌, inl, inr, ◌<◌, ℕ, Bool, true, false, List, [], ◌∷◌, length, Option, Some, None, Result, Ok, Err, refl, sym, ◌∙◌, ap, subst, arith, rules, map, String, Global}
use Rattle.std.specs.Prelude.{IfErr, IfSome, IsSomeAnd, OnOk, codes, slice_get, string_bytes, ◌==◌, if◌then◌else◌}
use Rattle.std.specs.Io.KnownBytes.{Appends}
use Rattle.std.proofs.lemmas.Option.{slice_get_cases}
use Rattle.hack_base.specs.Streams.{stream_of}
use Rattle.hack_base.specs.Writes.{AppendsFront, CountsErrors}
use Rattle.hack_base.specs.declared.writes.Sink.{Ghosts as Taking}
use Rattle.hack_term.specs.declared.log_group.LogGroup.{LogGroup}
use Rattle.hack_term.specs.declared.log_group.LogGroup.TheVariants.{None as Ungrouped, GithubActions}
use Rattle.hack_term.specs.declared.term.Coloring.{Coloring}
use Rattle.hack_term.specs.Lines.{info_line}
use Rattle.hack_term.specs.Groups.{opening_line, message_line, on_screen}
use Rattle.hack_process.specs.declared.fault.ProcessFault.{ProcessFault}
use Rattle.hack_process.specs.declared.fault.ProcessFault.TheVariants.{Memory, EmptyProgram, NeverExecuted, NotText, Failed as ByFailure}
use Rattle.hack_process.specs.Calls.{Answer, Asked, Call, AddsCall, IsSuccess}
use Rattle.hack_process.specs.Commands.{asked_of}
use Rattle.hack_process.specs.CommandTexts.{Command, text_of}
use Rattle.hack_process.specs.Faults.{GotAnswer, IsFault, ShowsNothing}
use Rattle.hack_plan.specs.declared.places.PlanEntry.{PlanEntry}
use Rattle.hack_plan.specs.Commands.{chosen_package_at, clean_command, lockfile_command, toolchain_of}
use Rattle.hack_plan.specs.View.{PlanView}
use Rattle.hack_session.specs.StepOutput.{Manner, OnErr, OnOut, Says, SaysAll, Streams, cleaning_said, end_said, group_said, opening_said, space_said, status_said, streams}
use Rattle.hack_session.specs.StepEffects.{ComesTo, DoesTask, DoesTasks, EnsuresToolchain, Performed, Runs, Scene, Skips, Task, TriesFirst, adding_task, addition_task, cleaning_task, is_memory, lockfile_tasks, own_task, run_tasks, task_of, trial_task}
use Rattle.hack_session.specs.Statuses.{place_status, running_text}
use Rattle.hack_session.specs.Toolchains.{addition_of, toolchain_name, trial_of}
use Rattle.hack_session.specs.declared.step.Step.{Step}
use Rattle.hack_versions.specs.declared.version.Version.{Version}

-- ---- texts

-- what a result says of the opening of a group
pub opens : (T E O P : Type 0) (o : Taking O) (e : Taking P) (group : LogGroup) (coloring : Coloring) (text : List ℕ) (out out_2 : O) (err err_2 : P) (r : Result T E)
    → OnOk r (Appends (o.contents out) (o.contents out_2) (opening_line group text) × Appends (e.contents err) (e.contents err_2) (message_line group coloring text))
    → AppendsFront (o.contents out) (o.contents out_2) (opening_line group text) → AppendsFront (e.contents err) (e.contents err_2) (message_line group coloring text)
    → CountsErrors (on_screen group (o.failed out) (e.failed err)) (on_screen group (o.failed out_2) (e.failed err_2)) r
    → (group ≡ Ungrouped → out_2 ≡ out) → (group ≡ GithubActions → err_2 ≡ err)
    → Says (on_screen group (OnOut (opening_line group text)) (OnErr (message_line group coloring text))) (streams o e out err) (streams o e out_2 err_2)
opens T E O P o e Ungrouped coloring text out out_2 err err_2 (Ok done) all front front_2 counted kept kept_2 =
    (inl (all.1, counted), ap (stream_of o) (kept refl))
opens T E O P o e Ungrouped coloring text out out_2 err err_2 (Err fault) all front front_2 counted kept kept_2 =
    (inr (front_2, counted), ap (stream_of o) (kept refl))
opens T E O P o e GithubActions coloring text out out_2 err err_2 (Ok done) all front front_2 counted kept kept_2 =
    (inl (all.0, counted), ap (stream_of e) (kept_2 refl))
opens T E O P o e GithubActions coloring text out out_2 err err_2 (Err fault) all front front_2 counted kept kept_2 =
    (inr (front, counted), ap (stream_of e) (kept_2 refl))

-- ---- commands

pub comes_run : (tells : Type 0) (r : Result (Unit {0}) ProcessFault) (asked : Asked) (shown : List ℕ) (old new : List Call)
    → OnOk r (tells → GotAnswer (λ answer. IsSuccess answer.end) asked old new) → OnOk r (asked.program ≢ []) → IfErr r (IsFault tells asked shown old new) → IfErr r ShowsNothing → ComesTo tells asked shown r old new
comes_run tells (Ok done) asked shown old new ok named err bare = (named, ok)
comes_run tells (Err fault) asked shown old new ok named err bare = (err, λ e. bare)

pub comes_ok : (tells : Type 0) (asked : Asked) (shown : List ℕ) (answer : Answer) (old new : List Call) → asked.program ≢ [] → IsSuccess answer.end → (tells → AddsCall asked answer old new) → ComesTo tells asked shown (Ok tt) old new
comes_ok tells asked shown answer old new named success ok = (named, λ t. (answer, success, ok t))

-- an error of a command whose output is captured
pub comes_err : (tells : Type 0) (fault : ProcessFault) (k : Command) (shown : List ℕ) (old new : List Call) → IsFault tells (asked_of true k) shown old new fault → ComesTo tells (asked_of true k) shown (Err fault) old new
comes_err tells fault k shown old new err = (err, λ e. absurd (cc))

-- the same command, whose output is captured or not
pub comes_as : (tells : Type 0) (r : Result (Unit {0}) ProcessFault) (quiet other : Bool) (k : Command) (shown : List ℕ) (a b : List Call) → quiet ≡ other → ComesTo tells (asked_of quiet k) shown r a b → ComesTo tells (asked_of other k) shown r a b
comes_as tells r quiet other k shown a b e p = subst (λ (x : Bool). ComesTo tells (asked_of x k) shown r a b) e p

-- a task whose command was called between the opening and the end of its group
pub in_group : (tells : Type 0) (r : Result (Unit {0}) ProcessFault) (m : Manner) (text dir : List ℕ) (k : Command) (a b : List Call) (x y z : Streams) (group : LogGroup) → group ≡ m.group
    → Says (opening_said m text) x y → ComesTo tells (task_of (group_said m text) false dir k).asked (task_of (group_said m text) false dir k).shown r a b → SaysAll (end_said group) y z
    → DoesTask tells (task_of (group_said m text) false dir k) r (record { calls = a; streams = x }) (record { calls = b; streams = z })
in_group tells r m text dir k a b x y z group e p comes q = inr ((y, p, subst (λ (g : LogGroup). SaysAll (end_said g) y z) e q), comes)

-- nothing was done, since memory was refused
pub refused_task : (tells : Type 0) (r : Result (Unit {0}) ProcessFault) (task : Task) (a b : Scene) → r ≡ Err Memory → b ≡ a → DoesTask tells task r a b
refused_task tells r task a b e same = inl (e, same)

pub task_as : (tells : Type 0) (r : Result (Unit {0}) ProcessFault) (task other : Task) (a b : Scene) → task ≡ other → DoesTask tells task r a b → DoesTask tells other r a b
task_as tells r task other a b e p = subst (λ (t : Task). DoesTask tells t r a b) e p

-- one task alone
pub one_task : (tells : Type 0) (r : Result (Unit {0}) ProcessFault) (task : Task) (a b : Scene) → DoesTask tells task r a b → DoesTasks tells (task ∷ []) r a b
one_task tells (Ok done) task a b p = inr (b, p, (refl, refl))
one_task tells (Err fault) task a b p = inl (refl, p)

-- ---- runs

-- the place is in the plan
pub entry_at : (entries : List PlanEntry) (place : ℕ) → place < length entries → (q : PlanEntry) × (slice_get entries place ≡ Some q)
entry_at entries place lt = elim (slice_get_cases entries place).1 [
  | inl w ↦ (w.0, w.2)
  | inr w ↦ absurd (omega arith)
]

-- what holds of each run holds of the one at a place of the plan
at_place : (P : PlanEntry → Type 0) (entries : List PlanEntry) (place : ℕ) → place < length entries → ((q : PlanEntry) → P q) → IsSomeAnd (slice_get entries place) P
at_place P entries place lt f = let q = entry_at entries place lt in subst (λ (o : Option PlanEntry). IsSomeAnd o P) (sym q.1) (f q.0)

at_entry : (P : PlanEntry → Type 0) (o : Option PlanEntry) (q : PlanEntry) → o ≡ Some q → P q → IsSomeAnd o P
at_entry P o q e p = subst (λ (x : Option PlanEntry). IsSomeAnd x P) (sym e) p

-- without a cleaning, a run is its own command
pub plain_tasks : (m : Manner) (plan : PlanView) (place : ℕ) (q : PlanEntry) → plan.call.clean_per_run ≡ false → own_task m plan place q ∷ [] ≡ run_tasks m plan place q
plain_tasks m plan place q e = sym (go plan.call.clean_per_run e)
  where
    go : (flag : Bool) → flag ≡ false → (if flag then cleaning_task m plan.call.dir (clean_command plan.call (chosen_package_at plan.packages q.package)) ∷ own_task m plan place q ∷ [] else own_task m plan place q ∷ []) ≡ own_task m plan place q ∷ []
    go true b = absurd (cc)
    go false b = refl

pub cleaned_tasks : (m : Manner) (plan : PlanView) (place : ℕ) (q : PlanEntry) → plan.call.clean_per_run ≡ true → cleaning_task m plan.call.dir (clean_command plan.call (chosen_package_at plan.packages q.package)) ∷ own_task m plan place q ∷ [] ≡ run_tasks m plan place q
cleaned_tasks m plan place q e = sym (go plan.call.clean_per_run e)
  where
    go : (flag : Bool) → flag ≡ true → (if flag then cleaning_task m plan.call.dir (clean_command plan.call (chosen_package_at plan.packages q.package)) ∷ own_task m plan place q ∷ [] else own_task m plan place q ∷ []) ≡ cleaning_task m plan.call.dir (clean_command plan.call (chosen_package_at plan.packages q.package)) ∷ own_task m plan place q ∷ []
    go true b = refl
    go false b = absurd (cc)

-- memory was refused before the first task of a run
refused_tasks : (tells : Type 0) (m : Manner) (plan : PlanView) (place : ℕ) (q : PlanEntry) (a : Scene) → DoesTasks tells (run_tasks m plan place q) (Err Memory) a a
refused_tasks tells m plan place q a = go plan.call.clean_per_run
  where
    go : (flag : Bool) → DoesTasks tells (if flag then cleaning_task m plan.call.dir (clean_command plan.call (chosen_package_at plan.packages q.package)) ∷ own_task m plan place q ∷ [] else own_task m plan place q ∷ []) (Err Memory) a a
    go true = inl (refl, inl (refl, refl))
    go false = inl (refl, inl (refl, refl))

pub run_refused : (tells : Type 0) (r : Result (Unit {0}) ProcessFault) (m : Manner) (plan : PlanView) (place : ℕ) (calls : List Call) (x y : Streams) → place < length plan.entries → r ≡ Err Memory
    → SaysAll (space_said m.group place) x y → IsSomeAnd (slice_get plan.entries place) (λ q. Runs tells m plan place q r (record { calls = calls; streams = x }) (record { calls = calls; streams = y }))
run_refused tells r m plan place calls x y lt e p =
    at_place (λ q. Runs tells m plan place q r (record { calls = calls; streams = x }) (record { calls = calls; streams = y })) plan.entries place lt
    (λ q. (y, p, subst (λ (c : Result (Unit {0}) ProcessFault). DoesTasks tells (run_tasks m plan place q) c (record { calls = calls; streams = y }) (record { calls = calls; streams = y })) (sym e) (refused_tasks tells m plan place q (record { calls = calls; streams = y }))))

-- an empty line, and the tasks of the run at a place
pub run_at : (tells : Type 0) (r : Result (Unit {0}) ProcessFault) (m : Manner) (plan : PlanView) (place : ℕ) (q : PlanEntry) (tasks : List Task) (calls : List Call) (x y : Streams) (c : Scene) → slice_get plan.entries place ≡ Some q → tasks ≡ run_tasks m plan place q
    → SaysAll (space_said m.group place) x y → DoesTasks tells tasks r (record { calls = calls; streams = y }) c
    → IsSomeAnd (slice_get plan.entries place) (λ q. Runs tells m plan place q r (record { calls = calls; streams = x }) c)
run_at tells r m plan place q tasks calls x y c e f p did =
    at_entry (λ q. Runs tells m plan place q r (record { calls = calls; streams = x }) c) (slice_get plan.entries place) q e
    (y, p, subst (λ (ts : List Task). DoesTasks tells ts r (record { calls = calls; streams = y }) c) f did)

-- a cleaning by other names of its manner, its folder and its command
pub cleaned_as : (tells : Type 0) (r : Result (Unit {0}) ProcessFault) (m n : Manner) (dir other : List ℕ) (k l : Command) (a b : Scene) → m ≡ n → dir ≡ other → k ≡ l → DoesTask tells (cleaning_task m dir k) r a b → DoesTask tells (cleaning_task n other l) r a b
cleaned_as tells r m n dir other k l a b e f g p =
    task_as tells r (cleaning_task m dir k) (cleaning_task n other l) a b
    (ap (λ (x : Manner). cleaning_task x dir k) e ∙ ap (λ (x : List ℕ). cleaning_task n x k) f ∙ ap (cleaning_task n other) g) p

pub cleaning_at : (plan : PlanView) (o : Option PlanEntry) (q : PlanEntry) (clean : Command) → o ≡ Some q → IfSome o (λ x. clean ≡ clean_command plan.call (chosen_package_at plan.packages x.package)) → clean ≡ clean_command plan.call (chosen_package_at plan.packages q.package)
cleaning_at plan o q clean e g = subst (λ (x : Option PlanEntry). IfSome x (λ y. clean ≡ clean_command plan.call (chosen_package_at plan.packages y.package))) e g

-- a run's own command by other names
pub own_as : (tells : Type 0) (r : Result (Unit {0}) ProcessFault) (m n : Manner) (plan : PlanView) (place : ℕ) (q : PlanEntry) (a b : Scene) → m ≡ n → DoesTask tells (own_task m plan place q) r a b → DoesTask tells (own_task n plan place q) r a b
own_as tells r m n plan place q a b e p = task_as tells r (own_task m plan place q) (own_task n plan place q) a b (ap (λ (x : Manner). own_task x plan place q) e) p

pub grouped_as : (tells : Type 0) (r : Result (Unit {0}) ProcessFault) (m : Manner) (text other dir folder : List ℕ) (k l : Command) (a b : Scene) → text ≡ other → dir ≡ folder → k ≡ l → DoesTask tells (task_of (group_said m text) false dir k) r a b → DoesTask tells (task_of (group_said m other) false folder l) r a b
grouped_as tells r m text other dir folder k l a b e f g p =
    task_as tells r (task_of (group_said m text) false dir k) (task_of (group_said m other) false folder l) a b
    (ap (λ (x : List ℕ). task_of (group_said m x) false dir k) e ∙ ap (λ (x : List ℕ). task_of (group_said m other) false x k) f ∙ ap (task_of (group_said m other) false folder) g) p

-- ---- toolchains

pub tried_ok : (tells : Type 0) (try add : Task) (a b : Scene) → DoesTask tells try (Ok tt) a b → TriesFirst tells [] try add (Ok tt) a b
tried_ok tells try add a b p = inl (tt, p)

pub tried_cut : (tells : Type 0) (fault : ProcessFault) (try add : Task) (a b : Scene) → fault ≡ Memory → DoesTask tells try (Err fault) a b → TriesFirst tells [] try add (Err fault) a b
tried_cut tells fault try add a b e p = inl (e, p)

pub tried_then : (tells : Type 0) (fault : ProcessFault) (r : Result (Unit {0}) ProcessFault) (try add : Task) (a b c : Scene) → fault ≢ Memory → DoesTask tells try (Err fault) a b → DoesTask tells add r b c → TriesFirst tells [] try add r a c
tried_then tells fault r try add a b c ne p q = inr (fault, b, ne, p, q)

-- targets are given, and the toolchain is just added; or none are
pub with_targets : (tells : Type 0) (r : Result (Unit {0}) ProcessFault) (xs : List (String Global)) (try add : Task) (a b : Scene) → false ≡ (length xs == 0) → DoesTask tells add r a b → TriesFirst tells (map string_bytes xs) try add r a b
with_targets tells r [] try add a b e p = absurd (cc)
with_targets tells r (x ∷ xs) try add a b e p = p

pub without_targets : (tells : Type 0) (r : Result (Unit {0}) ProcessFault) (xs : List (String Global)) (try add : Task) (a b : Scene) → true ≡ (length xs == 0) → TriesFirst tells [] try add r a b → TriesFirst tells (map string_bytes xs) try add r a b
without_targets tells r [] try add a b e p = p
without_targets tells r (x ∷ xs) try add a b e p = absurd (search rules)

-- nothing was done, since memory was refused
pub refused_toolchain : (tells : Type 0) (r : Result (Unit {0}) ProcessFault) (targets : List (List ℕ)) (try add : Task) (a : Scene) → r ≡ Err Memory → TriesFirst tells targets try add r a a
refused_toolchain tells r [] try add a e = inl (subst (λ (x : Result (Unit {0}) ProcessFault). IfErr x (λ fault. fault ≡ Memory)) (sym e) refl, inl (e, refl))
refused_toolchain tells r (target ∷ targets) try add a e = inl (e, refl)

-- ---- by other names

-- a command that was called without a word
pub spoken : (tells : Type 0) (r : Result (Unit {0}) ProcessFault) (capture : Bool) (dir : List ℕ) (k : Command) (a b : List Call) (x : Streams) → ComesTo tells (asked_of capture k) (text_of true dir k) r a b
    → DoesTask tells (task_of [] capture dir k) r (record { calls = a; streams = x }) (record { calls = b; streams = x })
spoken tells r capture dir k a b x p = inr (refl, p)

pub is_want : (fault : ProcessFault) → true ≡ is_memory fault → fault ≡ Memory
is_want Memory e = refl
is_want EmptyProgram e = absurd (cc)
is_want (NeverExecuted text) e = absurd (cc)
is_want (NotText text) e = absurd (cc)
is_want (ByFailure failure) e = absurd (cc)

-- a toolchain was added without a word, or in a group
pub added_quiet : (tells : Type 0) (r : Result (Unit {0}) ProcessFault) (prints : Bool) (m : Manner) (dir : List ℕ) (k : Command) (a b : List Call) (x : Streams) → prints ≡ false → ComesTo tells (asked_of true k) (text_of true dir k) r a b
    → DoesTask tells (adding_task prints m dir k) r (record { calls = a; streams = x }) (record { calls = b; streams = x })
added_quiet tells r true m dir k a b x e p = absurd (cc)
added_quiet tells r false m dir k a b x e p = inr (refl, p)

pub added : (tells : Type 0) (r : Result (Unit {0}) ProcessFault) (prints : Bool) (m : Manner) (text : List ℕ) (dir : List ℕ) (k : Command) (a b : Scene) → prints ≡ true → text ≡ running_text (text_of m.verbose dir k) → DoesTask tells (task_of (group_said m text) false dir k) r a b
    → DoesTask tells (adding_task prints m dir k) r a b
added tells r true m text dir k a b e f p = task_as tells r _ _ a b (ap (λ (x : List ℕ). task_of (group_said m x) false dir k) f) p
added tells r false m text dir k a b e f p = absurd (cc)

pub first_as : (tells : Type 0) (r : Result (Unit {0}) ProcessFault) (try try_2 add add_2 : Task) (a b : Scene) → try ≡ try_2 → add ≡ add_2 → TriesFirst tells [] try add r a b → TriesFirst tells [] try_2 add_2 r a b
first_as tells r try try_2 add add_2 a b e f p = subst (λ (t : Task). TriesFirst tells [] t add_2 r a b) e (subst (λ (t : Task). TriesFirst tells [] try t r a b) f p)

-- ---- versions with a number, and without

pub refused_version : (tells : Type 0) (r : Result (Unit {0}) ProcessFault) (m : Manner) (plan : PlanView) (o : Option Version) (v : Version) (a : Scene) → Some v ≡ o → r ≡ Err Memory → EnsuresToolchain tells m plan o r a a
refused_version tells r m plan o v a e f = subst (λ (x : Option Version). EnsuresToolchain tells m plan x r a a) e (refused_toolchain tells r plan.call.targets (trial_task plan v) (addition_task m plan v) a f)

pub no_number : (tells : Type 0) (m : Manner) (plan : PlanView) (o : Option Version) (a : Scene) → None ≡ o → EnsuresToolchain tells m plan o (Ok tt) a a
no_number tells m plan o a e = subst (λ (x : Option Version). EnsuresToolchain tells m plan x (Ok tt) a a) e (refl, refl)

-- the toolchain of a version that has a number
pub ensured_as : (tells : Type 0) (r : Result (Unit {0}) ProcessFault) (m : Manner) (plan : PlanView) (o : Option Version) (v : Version) (dir rustup name : List ℕ) (targets : List (List ℕ)) (a b : Scene)
    → Some v ≡ o → dir ≡ plan.call.dir → rustup ≡ plan.call.rustup → name ≡ toolchain_of v → targets ≡ plan.call.targets
    → TriesFirst tells targets (task_of [] true dir (trial_of rustup (toolchain_name name))) (adding_task true m dir (addition_of rustup (toolchain_name name) targets)) r a b
    → EnsuresToolchain tells m plan o r a b
ensured_as tells r m plan o v dir rustup name targets a b e d f h i p =
    subst (λ (x : Option Version). EnsuresToolchain tells m plan x r a b) e
    (subst (λ (x : List ℕ). TriesFirst tells plan.call.targets (task_of [] true x (trial_of plan.call.rustup (toolchain_of v))) (adding_task true m x (addition_of plan.call.rustup (toolchain_of v) plan.call.targets)) r a b) d
    (subst (λ (x : List ℕ). TriesFirst tells plan.call.targets (task_of [] true dir (trial_of x (toolchain_of v))) (adding_task true m dir (addition_of x (toolchain_of v) plan.call.targets)) r a b) f
    (subst (λ (x : List ℕ). TriesFirst tells plan.call.targets (task_of [] true dir (trial_of rustup (toolchain_name x))) (adding_task true m dir (addition_of rustup (toolchain_name x) plan.call.targets)) r a b) h
    (subst (λ (x : List (List ℕ)). TriesFirst tells x (task_of [] true dir (trial_of rustup (toolchain_name name))) (adding_task true m dir (addition_of rustup (toolchain_name name) x)) r a b) i p))))

pub refused_lockfile : (tells : Type 0) (r : Result (Unit {0}) ProcessFault) (plan : PlanView) (o : Option Version) (v : Version) (a : Scene) → Some v ≡ o → r ≡ Err Memory → DoesTasks tells (lockfile_tasks plan o) r a a
refused_lockfile tells r plan o v a e f = subst (λ (x : Option Version). DoesTasks tells (lockfile_tasks plan x) r a a) e
    (subst (λ (x : Result (Unit {0}) ProcessFault). DoesTasks tells (lockfile_tasks plan (Some v)) x a a) (sym f) (inl (refl, inl (refl, refl))))

pub no_lockfile : (tells : Type 0) (plan : PlanView) (o : Option Version) (a : Scene) → None ≡ o → DoesTasks tells (lockfile_tasks plan o) (Ok tt) a a
no_lockfile tells plan o a e = subst (λ (x : Option Version). DoesTasks tells (lockfile_tasks plan x) (Ok tt) a a) e (refl, refl)

pub lockfile_made : (tells : Type 0) (r : Result (Unit {0}) ProcessFault) (plan : PlanView) (o : Option Version) (v : Version) (dir : List ℕ) (k : Command) (a b : List Call) (x : Streams) → Some v ≡ o → k ≡ lockfile_command plan.call v → dir ≡ plan.call.dir
    → ComesTo tells (asked_of true k) (text_of true dir k) r a b → DoesTasks tells (lockfile_tasks plan o) r (record { calls = a; streams = x }) (record { calls = b; streams = x })
lockfile_made tells r plan o v dir k a b x e f h p =
    subst (λ (y : Option Version). DoesTasks tells (lockfile_tasks plan y) r (record { calls = a; streams = x }) (record { calls = b; streams = x })) e
    (one_task tells r (task_of [] true plan.call.dir (lockfile_command plan.call v)) (record { calls = a; streams = x }) (record { calls = b; streams = x })
    (task_as tells r (task_of [] true dir k) (task_of [] true plan.call.dir (lockfile_command plan.call v)) (record { calls = a; streams = x }) (record { calls = b; streams = x })
    (ap (λ (y : List ℕ). task_of [] true y k) h ∙ ap (task_of [] true plan.call.dir) f) (spoken tells r true dir k a b x p)))

-- ---- skipped places, and whole steps

pub skip_refused : (r : Result (Unit {0}) ProcessFault) (m : Manner) (plan : PlanView) (place : ℕ) (x y : Streams) → place < length plan.entries → r ≡ Err Memory → SaysAll (space_said m.group place) x y → IsSomeAnd (slice_get plan.entries place) (λ q. Skips m plan place q r x y)
skip_refused r m plan place x y lt e p = at_place (λ q. Skips m plan place q r x y) plan.entries place lt
    (λ q. subst (λ (c : Result (Unit {0}) ProcessFault). Skips m plan place q c x y) (sym e) (y, p, (refl, refl)))

-- a skipped place: its text, in the manner that has stayed
pub skipped : (m : Manner) (plan : PlanView) (place : ℕ) (q : PlanEntry) (n k : Manner) (text : List ℕ) (w x y z : Streams) → slice_get plan.entries place ≡ Some q → n ≡ m → k ≡ n → text ≡ place_status (codes "skipping") n.verbose plan place q
    → SaysAll (space_said m.group place) w x → Says (opening_said n text) x y → SaysAll (end_said k.group) y z → IsSomeAnd (slice_get plan.entries place) (λ q. Skips m plan place q (Ok tt) w z)
skipped m plan place q n k text w x y z e f g h p s t =
    at_entry (λ q. Skips m plan place q (Ok tt) w z) (slice_get plan.entries place) q e (
      x,
      p,
      subst (λ (l : Manner). SaysAll (status_said l (codes "skipping") plan place q) x z) f
          (y, subst (λ (b : List ℕ). Says (opening_said n b) x y) h s, subst (λ (l : Manner). SaysAll (end_said l.group) y z) g t),
    )

-- what a step does, by the step's name
pub performed_as : (tells : Type 0) (r : Result (Unit {0}) ProcessFault) (m : Manner) (plan : PlanView) (step other : Step) (a b : Scene) → step ≡ other → Performed tells m plan other r a b → Performed tells m plan step r a b
performed_as tells r m plan step other a b e p = subst (λ (x : Step). Performed tells m plan x r a b) (sym e) p

-- a cleaning was told, since commands are shown in full
pub cleaning_told : (m : Manner) (dir : List ℕ) (k : Command) (text : List ℕ) (a b : Streams) → m.verbose ≡ true → text ≡ running_text (text_of true dir k) → Says (OnErr (info_line m.coloring text)) a b → SaysAll (cleaning_said m dir k) a b
cleaning_told m dir k text a b e f p = go m.verbose e
  where
    go : (flag : Bool) → flag ≡ true → SaysAll (if flag then OnErr (info_line m.coloring (running_text (text_of true dir k))) ∷ [] else []) a b
    go true e = (b, subst (λ (x : List ℕ). Says (OnErr (info_line m.coloring x)) a b) f p, refl)
    go false e = absurd (cc)
