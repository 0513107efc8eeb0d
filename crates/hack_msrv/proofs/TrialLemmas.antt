-- How the steps of a trial go together.
use Rattle.std.proofs.Common.{◌≡◌, ◌+◌, ◌-◌, ◌<◌, ◌≤◌, ℕ, zero, suc, Bool, true, false, List, [], ◌∷◌, ◌++◌, map, filter, length, get_or, take, drop, refl, sym, ap, subst, ◌∙◌, inr, arith}
use Rattle.std.specs.Prelude.{MatchBool}
use Rattle.std.specs.List.{range_with_len}
use Rattle.std.proofs.lemmas.List.{append_assoc, map-append}
use Rattle.std.proofs.lemmas.List.Elements.{filter-append}
use Rattle.hack_plan.specs.View.{PlanView}
use Rattle.hack_plan.specs.declared.parts.Preparation.{Preparation}
use Rattle.hack_plan.specs.declared.parts.PlanVersion.{PlanVersion}
use Rattle.hack_session.specs.Histories.{passed_step}
use Rattle.hack_session.specs.declared.step.Handed.{Handed}
use Rattle.hack_session.specs.declared.step.Step.{Step}
use Rattle.hack_session.specs.declared.step.Step.TheVariants.{Prepare, Run}
use Rattle.hack_msrv.specs.Trials.{ComesTo, StopsAt, failed_step, is_of, places_of}
use Rattle.hack_msrv.specs.declared.trial.Came.{Came}
use Rattle.hack_msrv.specs.declared.trial.Came.TheVariants.{Passed, Failed, Broken}
use Rattle.hack_msrv.proofs.RangeLemmas.{filter-more, range-split}

-- a step fails behind others that passed
pub stops-at : (front left : List Step) (step : Step) (steps : List Step) → steps ≡ front ++ step ∷ left → StopsAt steps (map passed_step front ++ failed_step step ∷ []) step
stops-at front left step steps is = record { front = front; left = left; split = is; told = refl }

-- the same with steps before that passed
pub stops-behind : (passed steps : List Step) (handed : List Handed) (step : Step) → StopsAt steps handed step → StopsAt (passed ++ steps) (map passed_step passed ++ handed) step
stops-behind passed steps handed step s = record {
  front = passed ++ s.front;
  left = s.left;
  split = ap (λ l. passed ++ l) s.split ∙ sym (append_assoc passed s.front (step ∷ s.left));
  told = ap (λ l. map passed_step passed ++ l) s.told ∙ sym (append_assoc (map passed_step passed) (map passed_step s.front) (failed_step step ∷ []))
      ∙ ap (λ l. l ++ failed_step step ∷ []) (sym (map-append passed_step passed s.front));
}

-- what comes of a trial of which the first steps passed is what comes of the others
pub comes-behind : (ended : Bool) (passed steps : List Step) (handed : List Handed) (came : Came) → ComesTo ended steps handed came → ComesTo ended (passed ++ steps) (map passed_step passed ++ handed) came
comes-behind ended passed steps handed Passed c = ap (λ l. map passed_step passed ++ l) c ∙ sym (map-append passed_step passed steps)
comes-behind ended passed steps handed (Failed place) c = (c.0, stops-behind passed steps handed (Run place) c.1)
comes-behind ended passed steps handed Broken c = (c.0, stops-behind passed steps handed c.0 c.1, c.2)

filter-kept : (q : ℕ → Bool) (x : ℕ) (xs : List ℕ) → q x ≡ true → filter q (x ∷ xs) ≡ x ∷ filter q xs
filter-kept q x xs is = rw is refl

-- a run fails behind those of lesser places
pub fails-at : (plan : PlanView) (p : ℕ) (v : PlanVersion) (place : ℕ) → v.first ≤ place → place < v.end → is_of plan p place ≡ true
    → StopsAt (map Run (places_of plan p v)) (map passed_step (map Run (filter (is_of plan p) (range_with_len v.first (place - v.first)))) ++ failed_step (Run place) ∷ []) (Run place)
fails-at plan p v place le lt of =
    let q : ℕ → Bool = is_of plan p in
    let before : List ℕ = range_with_len v.first (place - v.first) in
    let behind : List ℕ = range_with_len (place + 1) (v.end - (place + 1)) in
    let here : filter q (place ∷ behind) ≡ place ∷ filter q behind = filter-kept q place behind of in
    stops-at (map Run (filter q before)) (map Run (filter q behind)) (Run place) (map Run (places_of plan p v))
    (ap (λ l. map Run (filter q l)) (range-split v.first place v.end le lt) ∙ ap (map Run) (filter-append q before (place ∷ behind) ∙ ap (λ l. filter q before ++ l) here)
    ∙ map-append Run (filter q before) (place ∷ filter q behind))

-- what came of a trial of which a run failed, by whether the call is at its end
pub came-by : (ended : Bool) (steps : List Step) (handed : List Handed) (place : ℕ) (came : Came) → StopsAt steps handed (Run place) → MatchBool ended (came ≡ Broken) (came ≡ Failed place) → ComesTo ended steps handed came
came-by true steps handed place came s is = subst (λ (c : Came). ComesTo true steps handed c) (sym is) (Run place, s, inr refl)
came-by false steps handed place came s is = subst (λ (c : Came). ComesTo false steps handed c) (sym is) (refl, s)

split-at : {X : Type 0} (xs : List X) (k : ℕ) (d : X) → k < length xs → xs ≡ take k xs ++ get_or xs k d ∷ drop (suc k) xs
split-at [] k d lt = absurd (omega (arith, lt))
split-at (x ∷ xs) zero d lt = refl
split-at (x ∷ xs) (suc k) d lt = ap (λ l. x ∷ l) (split-at xs k d (omega (arith, lt)))

-- a preparation fails behind those before it
pub prepared-fails : (preparations : List Preparation) (k : ℕ) (d : Preparation) → k < length preparations
    → StopsAt (map Prepare preparations) (map passed_step (map Prepare (take k preparations)) ++ failed_step (Prepare (get_or preparations k d)) ∷ []) (Prepare (get_or preparations k d))
prepared-fails preparations k d lt =
    stops-at (map Prepare (take k preparations)) (map Prepare (drop (suc k) preparations)) (Prepare (get_or preparations k d)) (map Prepare preparations)
    (ap (map Prepare) (split-at preparations k d lt) ∙ map-append Prepare (take k preparations) (get_or preparations k d ∷ drop (suc k) preparations))

-- the steps of a trial that a preparation ends
pub stops-prepared : {R : Type 0} (ran : PlanView → List Handed → R → R → Type 0) (more : (plan : PlanView) (steps more : List Handed) (a b c : R) → ran plan steps a b → ran plan more b c → ran plan (steps ++ more) a c)
    (plan : PlanView) (preparations : List Preparation) (k : ℕ) (d : Preparation) → k < length preparations → (handed : List Handed) → handed ≡ map passed_step (map Prepare (take k preparations)) → (a b c : R)
    → ran plan handed a b → ran plan (failed_step (Prepare (get_or preparations k d)) ∷ []) b c → (x : List Handed) × ran plan x a c × ((one : Preparation) × StopsAt (map Prepare preparations) x (Prepare one))
stops-prepared ran more plan preparations k d lt handed passed a b c first last =
    let one = get_or preparations k d in (
      handed ++ failed_step (Prepare one) ∷ [],
      more plan handed (failed_step (Prepare one) ∷ []) a b c first last,
      (one, subst (λ (l : List Handed). StopsAt (map Prepare preparations) (l ++ failed_step (Prepare one) ∷ []) (Prepare one)) (sym passed) (prepared-fails preparations k d lt)),
    )

-- one place more, whose run passed where it is the package's
pub runs-more : (plan : PlanView) (p first place : ℕ) → first ≤ place → (before here : List Handed) → before ≡ map passed_step (map Run (filter (is_of plan p) (range_with_len first (place - first))))
    → here ≡ map passed_step (map Run (filter (is_of plan p) (place ∷ []))) → before ++ here ≡ map passed_step (map Run (filter (is_of plan p) (range_with_len first (place + 1 - first))))
runs-more plan p first place le before here e f =
    let front = filter (is_of plan p) (range_with_len first (place - first)) in
    let bs = filter (is_of plan p) (place ∷ []) in
    ap (λ (l : List Handed). l ++ here) e ∙ ap (λ (l : List Handed). map passed_step (map Run front) ++ l) f ∙ sym (map-append passed_step (map Run front) (map Run bs))
    ∙ ap (λ (l : List Step). map passed_step l) (sym (map-append Run front bs)) ∙ ap (λ (l : List ℕ). map passed_step (map Run l)) (sym (filter-more (is_of plan p) first place le))
