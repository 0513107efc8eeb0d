-- Calls that a question makes, and what its answer says.
use Rattle.std.proofs.Common.{◌≡◌, ◌≢◌, ◌∙◌, refl, inl, inr, [], List, None, Result, Ok, Err, IfOk, IfErr, OnOk, Bool, true, false, sym, subst, string_bytes, append-nil, Global, String}
use Rattle.hack_base.specs.Names.{Name}
use Rattle.hack_metadata.specs.QuestionCalls.{FailsToRead, ReadsOutput}
use Rattle.hack_metadata.specs.Requests.{version_command}
use Rattle.hack_process.specs.Calls.{Answer, Asked, Call, IsSuccess, MayAdd}
use Rattle.hack_process.specs.CargoTexts.{release_part}
use Rattle.hack_process.specs.Commands.{asked_of}
use Rattle.hack_process.specs.CommandTexts.{Command}
use Rattle.hack_process.specs.Faults.{GotAnswer, IsReadFault}
use Rattle.hack_process.specs.declared.caller.End.{End}
use Rattle.hack_process.specs.declared.caller.End.TheVariants.{NeverStarted}
use Rattle.hack_process.specs.declared.fault.ProcessFault.{ProcessFault}
use Rattle.hack_process.specs.declared.fault.ProcessFault.TheVariants as process
use Rattle.hack_versions.specs.ToolTexts.{TellsRelease}
use Rattle.hack_versions.specs.declared.version.Version.{Version}
use Rattle.hack_planner.specs.declared.stable.Stable.{Stable}
use Rattle.hack_planner.specs.declared.stable.Stable.TheVariants.{Unasked, Known, Unknown}
use Rattle.hack_session.proofs.CallLemmas.{EndsOrIsCut}
use Rattle.hack_session.specs.StepCalls.{MakesCalls}
use Rattle.hack_session.specs.declared.step.Outcome.{Outcome}
use Rattle.hack_session.specs.declared.step.Outcome.TheVariants.{Failed, Passed}
use Rattle.hack_versions.specs.declared.rustup.Rustup.{Rustup}
use Rattle.hack_versions.specs.declared.rustup.Rustup.TheVariants as known
use Rattle.hack_run.specs.Loading.{IsMinorIn}
use Rattle.hack_run.specs.Questions.{AsksRustup, CannotReadStable, MayAskStable, ReadsStable, rustup_command}
use Rattle.hack_run.specs.Internal.{IsLatest, IsUnknown, TellsMinor}

-- a command that failed may have been called
pub fault_may : (tells : Type 0) (asked : Asked) (shown : Name) (old new : List Call) (e : ProcessFault) → IsReadFault tells asked shown old new e → tells → MayAdd asked old new
fault_may tells asked shown old new process.Memory h t = h.1 t
fault_may tells asked shown old new process.EmptyProgram h t = inl (h.1 t)
fault_may tells asked shown old new (process.NeverExecuted text) h t = let had = h.2 t in inr (had.0, had.2)
fault_may tells asked shown old new (process.Failed failure) h t = let had = h.3 t in inr (had.0, had.2)
fault_may tells asked shown old new (process.NotText text) h t = let had = h.2 t in inr (had.0, had.2)

-- a command whose output was read may have been called
pub read_may : (tells : Type 0) (P : String Global → Answer → Type 0) (asked : Asked) (shown : Name) (old new : List Call) (r : Result (String Global) ProcessFault)
    → IfOk r (λ text. tells → GotAnswer (P text) asked old new) → IfErr r (IsReadFault tells asked shown old new) → tells → MayAdd asked old new
read_may tells P asked shown old new (Ok text) ok err t = let had = ok t in inr (had.0, had.2)
read_may tells P asked shown old new (Err e) ok err t = fault_may tells asked shown old new e err t

-- a version that has a property has each weaker one
latest_map : (P Q : Version → Type 0) (U V : Name → Type 0) (r : Stable) → ((v : Version) → P v → Q v) → ((why : Name) → U why → V why) → IsLatest P U r → IsLatest Q V r
latest_map P Q U V Unasked f g p = absurd p
latest_map P Q U V (Known v) f g p = f v p
latest_map P Q U V (Unknown text) f g p = g (string_bytes text) p

-- the same for what a function returns
pub answer_map : {E : Type 0} (P Q : Version → Type 0) (U V : Name → Type 0) (r : Result Stable E) → ((v : Version) → P v → Q v) → ((why : Name) → U why → V why) → IfOk r (IsLatest P U) → IfOk r (IsLatest Q V)
answer_map P Q U V (Ok s) f g p = latest_map P Q U V s f g p
answer_map P Q U V (Err e) f g p = tt

-- an error other than want of memory ends calls that failed
pub failed_calls : {T : Type 0} (tells : Type 0) (Ended : List Call → Outcome → Type 0) (Cut : List Call → Type 0) (old new : List Call) (r : Result T ProcessFault)
    → (tells → MakesCalls (λ calls. EndsOrIsCut (Ended calls) (Cut calls) r) old new) → IfErr r (λ e. e ≢ process.Memory → tells → MakesCalls (λ calls. Ended calls Failed) old new)
failed_calls tells Ended Cut old new (Ok done) h = tt
failed_calls tells Ended Cut old new (Err process.Memory) h = λ ne t. absurd (ne refl)
failed_calls tells Ended Cut old new (Err process.EmptyProgram) h = λ ne t. let m = h t in record { made = m.made; grown = m.grown; such = m.such }
failed_calls tells Ended Cut old new (Err (process.NeverExecuted text)) h = λ ne t. let m = h t in record { made = m.made; grown = m.grown; such = m.such }
failed_calls tells Ended Cut old new (Err (process.NotText text)) h = λ ne t. let m = h t in record { made = m.made; grown = m.grown; such = m.such }
failed_calls tells Ended Cut old new (Err (process.Failed failure)) h = λ ne t. let m = h t in record { made = m.made; grown = m.grown; such = m.such }

-- calls that end without an error passed
pub installed : {T : Type 0} (tells : Type 0) (Ended : List Call → Outcome → Type 0) (Cut : List Call → Type 0) (old new : List Call) (r : Result T ProcessFault)
    → (tells → MakesCalls (λ calls. EndsOrIsCut (Ended calls) (Cut calls) r) old new) → OnOk r (tells → MakesCalls (λ calls. Ended calls Passed) old new)
installed tells Ended Cut old new (Ok done) h = λ t. let m = h t in record { made = m.made; grown = m.grown; such = m.such }
installed tells Ended Cut old new (Err e) h = tt

-- the answer that was read has the version
pub reads : (tells : Type 0) (rustup answer : Name) (c : Command) (old new : List Call) → c ≡ version_command rustup
    → (tells → ReadsOutput c answer old new)
    → (v : Version) → TellsRelease (release_part answer) v → tells → ReadsStable rustup v old new
reads tells rustup answer c old new is had v told t = (answer, subst (λ k. ReadsOutput k answer old new) is (had t), told)

-- rustup was asked, and its answer read
pub asks_rustup : {E : Type 0} (tells : Type 0) (wants : Bool) (rustup answer : Name) (c : Command) (old new : List Call) (r : Result Rustup E) → wants ≡ true → c ≡ rustup_command rustup
    → (tells → ReadsOutput c answer old new) → IfOk r (TellsMinor answer) → IfOk r (λ known. tells → AsksRustup wants rustup known old new)
asks_rustup tells wants rustup answer c old new (Ok known) is same had told = λ t.
    subst (λ b. AsksRustup b rustup known old new) (sym is) (told.0, inl (answer, subst (λ k. ReadsOutput k answer old new) same (had t), told.1))
asks_rustup tells wants rustup answer c old new (Err e) is same had told = tt

-- an error other than out of memory comes of a command that gave no answer
pub in_vain : (tells : Type 0) (c : Command) (shown : Name) (old new : List Call) (e : ProcessFault) → e ≢ process.Memory → IsReadFault tells (asked_of true c) shown old new e → tells → FailsToRead c old new
in_vain tells c shown old new process.Memory ne h t = absurd (ne refl)
in_vain tells c shown old new process.EmptyProgram ne h t = inl (h.0, h.1 t)
in_vain tells c shown old new (process.NeverExecuted text) ne h t = let had = h.2 t in inr (had.0, (λ s. never_started had.0.end had.1 s.0), had.2)
  where
    never_started : (how : End) → how ≡ NeverStarted → IsSuccess how → ⊥
    never_started how e s = cc
in_vain tells c shown old new (process.Failed failure) ne h t = let had = h.3 t in inr (had.0, (λ s. h.2.0 (had.1.ended ∙ s.0)), had.2)
in_vain tells c shown old new (process.NotText text) ne h t = let had = h.2 t in inr (had.0, (λ s. had.1.1 s.1), had.2)

-- a program without a name isn't called
pub unnamed : (tells : Type 0) (c : Command) (shown : Name) (old new : List Call) (e : ProcessFault) → IsReadFault tells (asked_of true c) shown old new e → tells → c.program ≡ [] → new ≡ old
unnamed tells c shown old new process.Memory h t none = absurd (h.0 none)
unnamed tells c shown old new process.EmptyProgram h t none = h.1 t
unnamed tells c shown old new (process.NeverExecuted text) h t none = absurd (h.0 none)
unnamed tells c shown old new (process.Failed failure) h t none = absurd (h.0 none)
unnamed tells c shown old new (process.NotText text) h t none = absurd (h.0 none)

-- stable's cargo gave no answer
pub reads_in_vain : (tells : Type 0) (rustup shown : Name) (c : Command) (old new : List Call) (e : ProcessFault) → c ≡ version_command rustup → IsReadFault tells (asked_of true c) shown old new e → e ≢ process.Memory → tells → CannotReadStable rustup old new
reads_in_vain tells rustup shown c old new e is failed lacks t =
    inr (subst (λ k. FailsToRead k old new) is (in_vain tells c shown old new e lacks failed t), subst (λ (k : Command). k.program ≡ [] → new ≡ old) is (unnamed tells c shown old new e failed t), λ v none. none)

-- its answer has no version
pub reads_nothing : (tells : Type 0) (rustup answer : Name) (c : Command) (old new : List Call) → c ≡ version_command rustup → (tells → ReadsOutput c answer old new) → IsMinorIn (release_part answer) None → tells → CannotReadStable rustup old new
reads_nothing tells rustup answer c old new is had none t = inl (answer, subst (λ k. ReadsOutput k answer old new) is (had t), none)

-- rustup gave no answer
pub asks_in_vain : {E : Type 0} (tells : Type 0) (wants : Bool) (rustup shown : Name) (c : Command) (old new : List Call) (r : Result Rustup E) (e : ProcessFault) → wants ≡ true → c ≡ rustup_command rustup
    → IsReadFault tells (asked_of true c) shown old new e → IfOk r IsUnknown → OnOk r (e ≢ process.Memory) → IfOk r (λ known. tells → AsksRustup wants rustup known old new)
asks_in_vain tells wants rustup shown c old new (Ok known) e is same failed unknown lacks = λ t.
    subst (λ b. AsksRustup b rustup known old new) (sym is)
    (unknown.0, inr (subst (λ k. FailsToRead k old new) same (in_vain tells c shown old new e lacks failed t), subst (λ (k : Command). k.program ≡ [] → new ≡ old) same (unnamed tells c shown old new e failed t), subst (IsMinorIn None) (sym unknown.1) (λ v none. none)))
asks_in_vain tells wants rustup shown c old new (Err x) e is same failed unknown lacks = tt

-- nothing was asked
pub asks_nothing : (wants : Bool) (rustup : Name) (old : List Call) → wants ≡ false → AsksRustup wants rustup known.Unasked old old
asks_nothing wants rustup old is = subst (λ b. AsksRustup b rustup known.Unasked old old) (sym is) (refl, refl)

-- nothing was asked of stable
pub asks_none : (rustup : Name) (calls : List Call) → MayAskStable rustup calls calls
asks_none rustup calls = inr (record { made = []; grown = sym (append-nil calls); such = inr (inl (inl refl)) })
