-- What a caller was asked by one command, and by commands after it.
use Rattle.std.proofs.Common.{◌≡◌, ◌≢◌, inl, inr, ℕ, List, [], ◌∷◌, refl, sym, ◌∙◌, ap, append-nil, Result, Ok, Err, subst}
use Rattle.hack_process.specs.declared.caller.End.{End}
use Rattle.hack_process.specs.declared.caller.End.TheVariants.{NeverStarted}
use Rattle.hack_process.specs.declared.fault.ProcessFault.{ProcessFault}
use Rattle.hack_process.specs.declared.fault.ProcessFault.TheVariants.{Memory, EmptyProgram, NeverExecuted, NotText, Failed as ByFailure}
use Rattle.hack_process.specs.Calls.{Asked, Answer, Call, AddsCall, MayAdd, IsSuccess}
use Rattle.hack_process.specs.Faults.{IsFault}
use Rattle.hack_session.specs.declared.step.Outcome.{Outcome}
use Rattle.hack_session.specs.declared.step.Outcome.TheVariants.{Passed, Failed}
use Rattle.hack_session.specs.StepCalls.{Breaks, BreaksInstall, CallsUpToFailure, Installs, IsCallOf, MakesCalls, Succeeds}
use Rattle.hack_session.specs.StepEffects.{DoesTask, Scene, Task}

-- by what commands returned: they ended with an outcome, or memory was refused
abbrev pub EndsOrIsCut : {T : Type 0} → (Outcome → Type 0) → Type 0 → Result T ProcessFault → Type 0
EndsOrIsCut ended cut (Ok done) = ended Passed
EndsOrIsCut ended cut (Err Memory) = cut
EndsOrIsCut ended cut (Err EmptyProgram) = ended Failed
EndsOrIsCut ended cut (Err (NeverExecuted text)) = ended Failed
EndsOrIsCut ended cut (Err (NotText text)) = ended Failed
EndsOrIsCut ended cut (Err (ByFailure failure)) = ended Failed

-- a toolchain is tried and added, or that is cut short
abbrev pub TriesAndAdds : {T : Type 0} → List (List ℕ) → Asked → Asked → Result T ProcessFault → List Call → Type 0
TriesAndAdds targets try add r calls = EndsOrIsCut (Installs targets try add calls) (BreaksInstall targets try add calls) r

-- the calls of commands in order: up to the first that fails, or up to one at which memory was refused
abbrev pub CallsInOrder : {T : Type 0} → List Asked → Result T ProcessFault → List Call → Type 0
CallsInOrder commands r calls = EndsOrIsCut (CallsUpToFailure commands calls) (Breaks commands calls) r

pub succeeds : (asked : Asked) (answer : Answer) → asked.program ≢ [] → IsSuccess answer.end → Succeeds asked (record { asked = asked; answer = answer } ∷ [])
succeeds asked answer n s = record { call = record { asked = asked; answer = answer }; one = refl; asks = refl; named = n; ended = s }

pub ends : (asked : Asked) (answer : Answer) → asked.program ≢ [] → ¬ IsSuccess answer.end → IsCallOf (λ how. ¬ IsSuccess how) asked (record { asked = asked; answer = answer } ∷ [])
ends asked answer n s = record { call = record { asked = asked; answer = answer }; one = refl; asks = refl; named = n; ended = s }

follows_one : (asked : Asked) (calls : List Call) → Succeeds asked calls → CallsUpToFailure (asked ∷ []) calls Passed
follows_one asked calls s = inr (calls, [], sym (append-nil calls), s, (refl, refl))

by_success : (T : Type 0) (done : T) (asked : Asked) (answer : Answer) (old new : List Call) → asked.program ≢ [] → IsSuccess answer.end → AddsCall asked answer old new → MakesCalls (CallsInOrder {T = T} (asked ∷ []) (Ok done)) old new
by_success T done asked answer old new n s a = record { made = record { asked = asked; answer = answer } ∷ []; grown = a; such = follows_one asked (record { asked = asked; answer = answer } ∷ []) (succeeds asked answer n s) }

by_memory : (T : Type 0) (asked : Asked) (old new : List Call) → asked.program ≢ [] → MayAdd asked old new → MakesCalls (CallsInOrder {T = T} (asked ∷ []) (Err Memory)) old new
by_memory T asked old new n (inl e) = record { made = []; grown = e ∙ sym (append-nil old); such = inl (inl refl) }
by_memory T asked old new n (inr a) = record { made = record { asked = asked; answer = a.0 } ∷ []; grown = a.1; such = inl (inr (record { call = record { asked = asked; answer = a.0 }; one = refl; asks = refl; named = n; ended = tt })) }

never_succeeds : (how : End) → how ≡ NeverStarted → ¬ IsSuccess how
never_succeeds how e = λ s. cc

by_end : (T : Type 0) (fault : ProcessFault) (asked : Asked) (answer : Answer) (old new : List Call) → asked.program ≢ [] → (¬ IsSuccess answer.end) → ((calls : List Call) → CallsUpToFailure (asked ∷ []) calls Failed → CallsInOrder {T = T} (asked ∷ []) (Err fault) calls) → AddsCall asked answer old new → MakesCalls (CallsInOrder {T = T} (asked ∷ []) (Err fault)) old new
by_end T fault asked answer old new n s f a = record { made = record { asked = asked; answer = answer } ∷ []; grown = a; such = f (record { asked = asked; answer = answer } ∷ []) (inl (inl (ends asked answer n s), refl)) }

by_fault : (T : Type 0) (tells : Type 0) (fault : ProcessFault) (asked : Asked) (shown : List ℕ) (old new : List Call) → IsFault tells asked shown old new fault → tells → MakesCalls (CallsInOrder {T = T} (asked ∷ []) (Err fault)) old new
by_fault T tells Memory asked shown old new f t = by_memory T asked old new f.0 (f.1 t)
by_fault T tells EmptyProgram asked shown old new f t = record { made = []; grown = f.1 t ∙ sym (append-nil old); such = inl (inr (f.0, refl), refl) }
by_fault T tells (NeverExecuted text) asked shown old new f t =
    let had = f.2 t in by_end T (NeverExecuted text) asked had.0 old new f.0 (never_succeeds had.0.end had.1) (λ calls h. h) had.2
by_fault T tells (NotText text) asked shown old new f t = absurd f
by_fault T tells (ByFailure failure) asked shown old new f t =
    let had = f.3 t in
    let other : ¬ IsSuccess had.0.end = λ s. f.2.0 (had.1.ended ∙ s) in
    by_end T (ByFailure failure) asked had.0 old new f.0 other (λ calls h. h) had.2

-- a command was called, or memory was refused
pub made_by : (tells : Type 0) (r : Result (Unit {0}) ProcessFault) (task : Task) (a b : Scene) → DoesTask tells task r a b → tells → MakesCalls (CallsInOrder (task.asked ∷ []) r) a.calls b.calls
made_by tells r task a b (inl w) t = subst (λ (x : Result (Unit {0}) ProcessFault). MakesCalls (CallsInOrder (task.asked ∷ []) x) a.calls b.calls) (sym w.0) (record { made = []; grown = ap (λ (s : Scene). s.calls) w.1 ∙ sym (append-nil a.calls); such = inl (inl refl) })
made_by tells (Ok done) task a b (inr w) t = let had = w.1.1 t in by_success (Unit {0}) done task.asked had.0 a.calls b.calls w.1.0 had.1 had.2
made_by tells (Err fault) task a b (inr w) t = by_fault (Unit {0}) tells fault task.asked task.shown a.calls b.calls w.1.0 t
