-- Commands that follow commands, and what they amount to as a step.
use Rattle.std.proofs.Common.{◌≡◌, ◌≢◌, inl, inr, ◌+◌, ℕ, List, [], ◌∷◌, ◌++◌, refl, sym, ◌∙◌, ap, subst, append_assoc, append-nil, arith, true, false, Result, Ok, Err}
use Rattle.hack_process.specs.declared.fault.ProcessFault.{ProcessFault}
use Rattle.hack_process.specs.declared.fault.ProcessFault.TheVariants.{Memory, EmptyProgram, NeverExecuted, NotText, Failed as ByFailure}
use Rattle.hack_process.specs.Calls.{Asked, Call}
use Rattle.hack_plan.specs.View.{PlanView}
use Rattle.hack_session.specs.declared.step.Step.{Step}
use Rattle.hack_session.specs.declared.step.Outcome.{Outcome}
use Rattle.hack_session.specs.declared.step.Outcome.TheVariants.{Passed, Failed}
use Rattle.hack_session.specs.declared.step.Handed.{Handed}
use Rattle.hack_session.specs.StepCalls.{Succeeds, Fails, CallsUpToFailure, MayCall, Breaks, Installs, BreaksInstall, MakesCalls, Exactly, IsCutShort, Performs, PerformsAll}
use Rattle.hack_base.specs.Counters.{GrowsBy}
use Rattle.hack_session.specs.StepEffects.{is_memory}
use Rattle.hack_session.proofs.CallLemmas.{CallsInOrder, EndsOrIsCut, TriesAndAdds}

-- the calls of a step, or those up to where memory was refused
abbrev pub MakesStepCalls : {T : Type 0} → PlanView → Step → Result T ProcessFault → List Call → Type 0
MakesStepCalls plan step r calls = EndsOrIsCut (Exactly plan step calls) (IsCutShort plan step calls) r

comes_fault : (T : Type 0) (fault : ProcessFault) (A B : Outcome → Type 0) (C D : Type 0) → (A Failed → B Failed) → (C → D) → EndsOrIsCut {T = T} A C (Err fault) → EndsOrIsCut {T = T} B D (Err fault)
comes_fault T Memory A B C D f g h = g h
comes_fault T EmptyProgram A B C D f g h = f h
comes_fault T (NeverExecuted text) A B C D f g h = f h
comes_fault T (NotText text) A B C D f g h = f h
comes_fault T (ByFailure failure) A B C D f g h = f h

comes_map : (T : Type 0) (r : Result T ProcessFault) (A B : Outcome → Type 0) (C D : Type 0) → ((o : Outcome) → A o → B o) → (C → D) → EndsOrIsCut A C r → EndsOrIsCut B D r
comes_map T (Ok d) A B C D f g h = f Passed h
comes_map T (Err fault) A B C D f g h = comes_fault T fault A B C D (f Failed) g h

-- the one command ended with status 0
followed : (asked : Asked) (calls : List Call) → CallsUpToFailure (asked ∷ []) calls Passed → Succeeds asked calls
followed asked calls (inl h) = absurd (cc (h.1))
followed asked calls (inr h) = subst (Succeeds asked) (sym (h.2 ∙ ap (λ (l : List Call). h.0 ++ l) h.4.0 ∙ append-nil h.0)) h.3

-- the one command failed
failed : (asked : Asked) (calls : List Call) → CallsUpToFailure (asked ∷ []) calls Failed → Fails asked calls
failed asked calls (inl h) = h.0
failed asked calls (inr h) = absurd (cc (h.4.1))

broken : (asked : Asked) (calls : List Call) → Breaks (asked ∷ []) calls → MayCall asked calls
broken asked calls (inl h) = h
broken asked calls (inr h) = absurd h.4

twice : (P Q R : List Call → Type 0) (a b c : List Call) → ((s t : List Call) → P s → Q t → R (s ++ t)) → MakesCalls P a b → MakesCalls Q b c → MakesCalls R a c
twice P Q R a b c f p q = record { made = p.made ++ q.made; grown = q.grown ∙ ap (λ (l : List Call). l ++ q.made) p.grown ∙ append_assoc a p.made q.made; such = f p.made q.made p.such q.such }

made_as : (P Q : List Call → Type 0) (a b : List Call) → ((s : List Call) → P s → Q s) → MakesCalls P a b → MakesCalls Q a b
made_as P Q a b f p = record { made = p.made; grown = p.grown; such = f p.made p.such }

-- the first command ended with status 0, and others follow it
pub run_then : (S T : Type 0) (done : S) (r : Result T ProcessFault) (first : Asked) (more : List Asked) (a b c : List Call) → MakesCalls (CallsInOrder {T = S} (first ∷ []) (Ok done)) a b → MakesCalls (CallsInOrder more r) b c → MakesCalls (CallsInOrder (first ∷ more) r) a c
run_then S T done r first more a b c p q =
    twice (CallsInOrder {T = S} (first ∷ []) (Ok done)) (CallsInOrder more r) (CallsInOrder (first ∷ more) r) a b c
    (λ s u x y. comes_map T r (CallsUpToFailure more u) (CallsUpToFailure (first ∷ more) (s ++ u)) (Breaks more u) (Breaks (first ∷ more) (s ++ u))
    (λ o h. inr (s, u, refl, followed first s x, h)) (λ h. inr (s, u, refl, followed first s x, h)) y) p q

-- the first command failed, and the others are not called
pub run_stops : (S T : Type 0) (fault : ProcessFault) (first : Asked) (more : List Asked) (a b : List Call) → MakesCalls (CallsInOrder {T = S} (first ∷ []) (Err fault)) a b → MakesCalls (CallsInOrder {T = T} (first ∷ more) (Err fault)) a b
run_stops S T fault first more a b p =
    made_as (CallsInOrder {T = S} (first ∷ []) (Err fault)) (CallsInOrder {T = T} (first ∷ more) (Err fault)) a b
    (λ s x. comes_fault T fault (CallsUpToFailure (first ∷ []) s) (CallsUpToFailure (first ∷ more) s) (Breaks (first ∷ []) s) (Breaks (first ∷ more) s)
    (λ h. inl (failed first s h, refl)) (λ h. inl (broken first s h)) (as_t fault s x)) p
  where
    as_t : (f : ProcessFault) (s : List Call) → CallsInOrder {T = S} (first ∷ []) (Err f) s → CallsInOrder {T = T} (first ∷ []) (Err f) s
    as_t Memory s x = x
    as_t EmptyProgram s x = x
    as_t (NeverExecuted text) s x = x
    as_t (NotText text) s x = x
    as_t (ByFailure failure) s x = x

pub tried_ok : (T : Type 0) (done : T) (try add : Asked) (a b : List Call) → MakesCalls (CallsInOrder {T = T} (try ∷ []) (Ok done)) a b → MakesCalls (TriesAndAdds {T = T} [] try add (Ok done)) a b
tried_ok T done try add a b p = made_as (CallsInOrder {T = T} (try ∷ []) (Ok done)) (TriesAndAdds {T = T} [] try add (Ok done)) a b (λ s x. inl (followed try s x, refl)) p

is_cut : (T : Type 0) (fault : ProcessFault) (A B : Outcome → Type 0) (C D : Type 0) → true ≡ is_memory fault → (C → D) → EndsOrIsCut {T = T} A C (Err fault) → EndsOrIsCut {T = T} B D (Err fault)
is_cut T Memory A B C D e g h = g h
is_cut T EmptyProgram A B C D e g h = absurd (cc)
is_cut T (NeverExecuted text) A B C D e g h = absurd (cc)
is_cut T (NotText text) A B C D e g h = absurd (cc)
is_cut T (ByFailure failure) A B C D e g h = absurd (cc)

pub tried_cut : (T : Type 0) (fault : ProcessFault) (try add : Asked) (a b : List Call) → true ≡ is_memory fault → MakesCalls (CallsInOrder {T = T} (try ∷ []) (Err fault)) a b → MakesCalls (TriesAndAdds {T = T} [] try add (Err fault)) a b
tried_cut T fault try add a b e p = made_as (CallsInOrder {T = T} (try ∷ []) (Err fault)) (TriesAndAdds {T = T} [] try add (Err fault)) a b
    (λ s x. is_cut T fault (CallsUpToFailure (try ∷ []) s) (Installs [] try add s) (Breaks (try ∷ []) s) (BreaksInstall [] try add s) e (λ h. inl (broken try s h)) x) p

pub not_memory : (fault : ProcessFault) → false ≡ is_memory fault → fault ≢ Memory
not_memory Memory e = λ h. cc
not_memory EmptyProgram e = λ h. cc
not_memory (NeverExecuted text) e = λ h. cc
not_memory (NotText text) e = λ h. cc
not_memory (ByFailure failure) e = λ h. cc

not_cut : (T : Type 0) (fault : ProcessFault) (A : Outcome → Type 0) (C : Type 0) → fault ≢ Memory → EndsOrIsCut {T = T} A C (Err fault) → A Failed
not_cut T Memory A C ne h = absurd (ne refl)
not_cut T EmptyProgram A C ne h = h
not_cut T (NeverExecuted text) A C ne h = h
not_cut T (NotText text) A C ne h = h
not_cut T (ByFailure failure) A C ne h = h

pub tried_then : (S T : Type 0) (fault : ProcessFault) (r : Result T ProcessFault) (try add : Asked) (a b c : List Call) → fault ≢ Memory → MakesCalls (CallsInOrder {T = S} (try ∷ []) (Err fault)) a b → MakesCalls (CallsInOrder (add ∷ []) r) b c → MakesCalls (TriesAndAdds [] try add r) a c
tried_then S T fault r try add a b c ne p q =
    twice (CallsInOrder {T = S} (try ∷ []) (Err fault)) (CallsInOrder (add ∷ []) r) (TriesAndAdds [] try add r) a b c
    (λ s u x y. comes_map T r (CallsUpToFailure (add ∷ []) u) (Installs [] try add (s ++ u)) (Breaks (add ∷ []) u) (BreaksInstall [] try add (s ++ u))
    (λ o h. inr (s, u, refl, failed try s (not_cut S fault (CallsUpToFailure (try ∷ []) s) (Breaks (try ∷ []) s) ne x), h))
    (λ h. inr (s, u, refl, failed try s (not_cut S fault (CallsUpToFailure (try ∷ []) s) (Breaks (try ∷ []) s) ne x), h)) y) p q

-- new is old with the calls of the steps after it, and the count of steps that were cut short
-- because memory was refused grew by those
pub record HasPerformed (plan : PlanView) (steps : List Handed) (old new : List Call) (before now : ℕ) : Type 0 where
  pub made : List Call
  pub cut : ℕ
  pub grown : new ≡ old ++ made
  pub counted : GrowsBy cut before now
  pub performed : PerformsAll plan steps made cut

one_step : (plan : PlanView) (h : Handed) (calls : List Call) (cut : ℕ) → Performs plan h calls cut → PerformsAll plan (h ∷ []) calls cut
one_step plan h calls cut p = (calls, [], cut, 0, sym (append-nil calls), omega arith, p, (refl, refl))

pub step_passed : (T : Type 0) (done : T) (plan : PlanView) (step : Step) (a b : List Call) (n : ℕ) → MakesCalls (MakesStepCalls {T = T} plan step (Ok done)) a b → HasPerformed plan (record { step = step; outcome = Passed } ∷ []) a b n n
step_passed T done plan step a b n p = record { made = p.made; cut = 0; grown = p.grown; counted = λ h. omega arith; performed = one_step plan (record { step = step; outcome = Passed }) p.made 0 (inl (p.such, refl)) }

pub step_failed : (T : Type 0) (fault : ProcessFault) (plan : PlanView) (step : Step) (a b : List Call) (n : ℕ) → fault ≢ Memory → MakesCalls (MakesStepCalls {T = T} plan step (Err fault)) a b → HasPerformed plan (record { step = step; outcome = Failed } ∷ []) a b n n
step_failed T fault plan step a b n ne p = record {
  made = p.made;
  cut = 0;
  grown = p.grown;
  counted = λ h. omega arith;
  performed = one_step plan (record { step = step; outcome = Failed }) p.made 0 (inl (not_cut T fault (Exactly plan step p.made) (IsCutShort plan step p.made) ne p.such, refl));
}

cut_of : (T : Type 0) (fault : ProcessFault) (A : Outcome → Type 0) (C : Type 0) → true ≡ is_memory fault → EndsOrIsCut {T = T} A C (Err fault) → C
cut_of T Memory A C e h = h
cut_of T EmptyProgram A C e h = absurd (cc)
cut_of T (NeverExecuted text) A C e h = absurd (cc)
cut_of T (NotText text) A C e h = absurd (cc)
cut_of T (ByFailure failure) A C e h = absurd (cc)

pub step_cut : (T : Type 0) (fault : ProcessFault) (plan : PlanView) (step : Step) (a b : List Call) (n m : ℕ) → true ≡ is_memory fault → GrowsBy 1 n m → MakesCalls (MakesStepCalls {T = T} plan step (Err fault)) a b → HasPerformed plan (record { step = step; outcome = Failed } ∷ []) a b n m
step_cut T fault plan step a b n m e grows p = record {
  made = p.made;
  cut = 1;
  grown = p.grown;
  counted = grows;
  performed = one_step plan (record { step = step; outcome = Failed }) p.made 1 (inr (cut_of T fault (Exactly plan step p.made) (IsCutShort plan step p.made) e p.such, refl, refl));
}

-- ---- steps, one after the other

grows_more : (k l a b c : ℕ) → GrowsBy k a b → GrowsBy l b c → GrowsBy (k + l) a c
grows_more k l a b c p q h = let e = p h in let f = q (omega (arith, e)) in omega (arith, e, f)

performs-append : (plan : PlanView) (steps more : List Handed) (calls next : List Call) (cut later : ℕ) → PerformsAll plan steps calls cut → PerformsAll plan more next later → PerformsAll plan (steps ++ more) (calls ++ next) (cut + later)
performs-append plan [] more calls next cut later p q = rw (p.0, p.1) (rw zero_plus q)
  where
    zero_plus : 0 + later ≡ later
    zero_plus = omega arith
performs-append plan (h ∷ steps) more calls next cut later p q =
    (p.0, p.1 ++ next, p.2, p.3 + later, ap (λ (cs : List Call). cs ++ next) p.4 ∙ append_assoc p.0 p.1 next, omega (arith, p.5), p.6, performs-append plan steps more p.1 next p.3 later p.7 q)

pub performed_none : (plan : PlanView) (calls : List Call) (n : ℕ) → HasPerformed plan [] calls calls n n
performed_none plan calls n = record { made = []; cut = 0; grown = sym (append-nil calls); counted = λ h. omega arith; performed = (refl, refl) }

pub performed_more : (plan : PlanView) (steps more : List Handed) (a b c : List Call) (x y z : ℕ) → HasPerformed plan steps a b x y → HasPerformed plan more b c y z → HasPerformed plan (steps ++ more) a c x z
performed_more plan steps more a b c x y z p q = record {
  made = p.made ++ q.made;
  cut = p.cut + q.cut;
  grown = q.grown ∙ ap (λ (l : List Call). l ++ q.made) p.grown ∙ append_assoc a p.made q.made;
  counted = grows_more p.cut q.cut x y z p.counted q.counted;
  performed = performs-append plan steps more p.made q.made p.cut q.cut p.performed q.performed;
}
