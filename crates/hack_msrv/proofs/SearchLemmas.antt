-- How trials and searches go together, and what they say.
use Rattle.std.proofs.Common.{◌≡◌, ◌+◌, ◌-◌, ◌<◌, ◌≤◌, ℕ, zero, suc, Bool, List, [], ◌∷◌, ◌++◌, All, Contains, Option, Some, None, length, get_or, map, refl, sym, ap, subst, ◌∙◌, inl, inr, arith}
use Rattle.std.specs.Prelude.{AllPairs, slice_get}
use Rattle.std.specs.List.{AllZip, flat_map}
use Rattle.std.specs.Option.{option_map_or}
use Rattle.std.proofs.lemmas.List.Elements.{All-cons, All-contains, All-nil, Contains-append_left, Contains-append_right, Contains-push}
use Rattle.std.proofs.lemmas.Option.{slice_get-get_or}
use Rattle.hack_base.proofs.Members.{Contains-cons_cases, Contains-head, Contains-nil, Contains-tail}
use Rattle.hack_bisect.specs.Searches.{AreLeft, HasFailed, IsSearch, IsRight, Trial as Tried}
use Rattle.hack_bisect.specs.declared.find.Least.{Least as LeastPlace}
use Rattle.hack_bisect.specs.declared.find.Least.TheVariants.{At, Nowhere as NoPlace, Broken as BrokenOff}
use Rattle.hack_bisect.specs.declared.tries.TrialOutcome.TheVariants as outcome
use Rattle.hack_plan.specs.View.{PlanView}
use Rattle.hack_session.specs.Histories.{passed_step}
use Rattle.hack_session.specs.declared.step.Handed.{Handed}
use Rattle.hack_session.specs.declared.step.Outcome.TheVariants as step
use Rattle.hack_session.specs.declared.step.Step.{Step}
use Rattle.hack_msrv.specs.Internal.{AreSearched, HasVersion, MayTry, failed_after, found_of, nowhere_of}
use Rattle.hack_msrv.specs.Searches.{AreSearches, AreTried, IsFound, IsHalving, IsReason, IsSearchOf, IsTrialAt, handed_in_all, outcome_of, uses_of}
use Rattle.hack_msrv.specs.Trials.{AreTrials, ComesTo, IsTrial, Trial, failed_step, handed_in, trial_steps}
use Rattle.hack_msrv.specs.declared.trial.Came.{Came}
use Rattle.hack_msrv.specs.declared.trial.Came.TheVariants as came
use Rattle.hack_msrv.specs.declared.found.Found.{Found}
use Rattle.hack_msrv.specs.declared.found.Found.TheVariants.{Least, Broken}
use Rattle.hack_msrv.proofs.FailureLemmas.{Climbs, IsTop, climbs-of, last-failed, none-failed}
use Rattle.hack_msrv.proofs.UseLemmas.{has-version}

-- ---- what the trials of a package say

-- the reason why a place is the least
reason : (uses : List ℕ) (tried : List Tried) (trials : List Trial) (place : ℕ) → AllZip (IsTrialAt uses) tried trials → AllPairs Climbs tried → AreLeft tried place place
    → IsReason uses trials place (failed_after None trials)
reason uses tried trials zero same climbs left = none-failed uses tried trials None same (λ i d lt is. elim (left.beside i d lt) [ inl failed ↦ omega (arith, failed.1) | inr passed ↦ absurd (cc (passed.0, is)) ])
reason uses tried trials (suc below) same climbs left =
    let top : All (IsTop below) tried = λ i d lt is. elim (left.beside i d lt) [ inl failed ↦ omega (arith, failed.1) | inr passed ↦ absurd (cc (passed.0, is)) ] in
    elim left.low_failed [
      | inl none ↦ absurd (cc none)
      | inr has ↦ last-failed uses tried trials None below same top climbs (subst (HasFailed tried) (let e : suc below - 1 ≡ below = omega arith in e) has)
    ]

-- what is said by an answer
pub is-found : (uses : List ℕ) (tried : List Tried) (trials : List Trial) (answer : LeastPlace) → 0 < length uses → AllZip (IsTrialAt uses) tried trials → IsSearch (length uses - 1) tried answer
    → IsRight (length uses - 1) tried answer → IsFound uses trials (found_of uses answer (failed_after None trials))
is-found uses tried trials (At place) some same seek right =
    let halving : IsHalving uses trials (At place) = record { tried = tried; same = same; search = seek; right = right } in
    let within : place ≤ length uses - 1 = All-contains (λ (t : Tried). t.place ≤ length uses - 1) tried (record { place = place; outcome = outcome.Passed }) seek.within seek.answered.high_passed in
    let is : slice_get uses place ≡ Some (get_or uses place 0) = slice_get-get_or uses place 0 (omega arith) in
    subst (λ o. IsFound uses trials (option_map_or (λ version. Least version (failed_after None trials)) o Broken)) (sym is)
    (place, halving, is, reason uses tried trials place same (climbs-of tried seek.halving) seek.answered)
is-found uses tried trials NoPlace some same seek right =
    let halving : IsHalving uses trials NoPlace = record { tried = tried; same = same; search = seek; right = right } in
    let top : All (IsTop (length uses - 1)) tried = λ i d lt is. seek.within i d lt in
    let has = subst (λ l. Contains l (record { place = length uses - 1; outcome = outcome.Failed })) (sym seek.answered) (Contains-head (record { place = length uses - 1; outcome = outcome.Failed }) []) in
    let l = last-failed uses tried trials None (length uses - 1) same top (climbs-of tried seek.halving) has in
    subst (λ o. IsFound uses trials (nowhere_of o (failed_after None trials))) (sym l.2)
    (subst (λ f. IsFound uses trials (nowhere_of (Some l.0) f)) (sym l.4) (halving, l.2, l.3))
is-found uses tried trials BrokenOff some same seek right = record { tried = tried; same = same; search = seek; right = right }

-- each place that a search tries has a version
pub all-within : (plan : PlanView) (p : ℕ) (tried : List Tried) (answer : LeastPlace) → 0 < length (uses_of plan p) → IsSearch (length (uses_of plan p) - 1) tried answer
    → All (λ t. HasVersion plan (uses_of plan p) t.place) tried
all-within plan p tried answer some seek = λ k d lt. has-version plan p (get_or tried k d).place (let le = seek.within k d lt in omega arith)

-- ---- one trial after the other

pub trials-each : {R : Type 0} (ran : PlanView → List Handed → R → R → Type 0) (ended : R → Bool) (plan : PlanView) (p : ℕ) (trials : List Trial) (a b : R) → AreTrials ran ended plan p trials a b
    → All (λ t. (e : Bool) × IsTrial plan p e t) trials
trials-each ran ended plan p [] a b h = All-nil (λ (t : Trial). (e : Bool) × IsTrial plan p e t)
trials-each ran ended plan p (t ∷ trials) a b h = All-cons (λ (t : Trial). (e : Bool) × IsTrial plan p e t) t trials (ended h.0, h.2) (trials-each ran ended plan p trials h.0 b h.3)

pub trials-ran : {R : Type 0} (ran : PlanView → List Handed → R → R → Type 0) (ended : R → Bool) (none : (plan : PlanView) (a : R) → ran plan [] a a)
    (more : (plan : PlanView) (steps more : List Handed) (a b c : R) → ran plan steps a b → ran plan more b c → ran plan (steps ++ more) a c) (plan : PlanView) (p : ℕ) (trials : List Trial) (a b : R)
    → AreTrials ran ended plan p trials a b → ran plan (handed_in trials) a b
trials-ran ran ended none more plan p [] a b h = subst (ran plan [] a) (sym h) (none plan a)
trials-ran ran ended none more plan p (t ∷ trials) a b h = more plan t.handed (handed_in trials) a h.0 b h.1 (trials-ran ran ended none more plan p trials h.0 b h.3)

pub searches-ran : {R : Type 0} (ran : PlanView → List Handed → R → R → Type 0) (ended : R → Bool) (none : (plan : PlanView) (a : R) → ran plan [] a a)
    (more : (plan : PlanView) (steps more : List Handed) (a b c : R) → ran plan steps a b → ran plan more b c → ran plan (steps ++ more) a c) (plan : PlanView) (p : ℕ) (searches : List (List Trial)) (a b : R)
    → AreTried ran ended plan p searches a b → ran plan (handed_in_all searches) a b
searches-ran ran ended none more plan p [] a b h = subst (ran plan [] a) (sym h) (none plan a)
searches-ran ran ended none more plan p (trials ∷ searches) a b h =
    more plan (handed_in trials) (handed_in_all searches) a h.0 b (trials-ran ran ended none more plan p trials a h.0 h.1) (searches-ran ran ended none more plan (p + 1) searches h.0 b h.2)

-- ---- one search after the other

searches-long : (plan : PlanView) (p : ℕ) (searches : List (List Trial)) (found : List Found) → AreSearches plan p searches found → length searches ≡ length found
searches-long plan p [] [] h = refl
searches-long plan p [] (one ∷ found) h = absurd h
searches-long plan p (trials ∷ searches) [] h = absurd h
searches-long plan p (trials ∷ searches) (one ∷ found) h = ap (λ n. suc n) (searches-long plan (p + 1) searches found h.1)

searches-push : (plan : PlanView) (p q : ℕ) (searches : List (List Trial)) (found : List Found) (trials : List Trial) (one : Found) → p + length found ≡ q → AreSearches plan p searches found
    → IsSearchOf plan q trials one → AreSearches plan p (searches ++ trials ∷ []) (found ++ one ∷ [])
searches-push plan p q [] [] trials one e h s = (subst (λ k. IsSearchOf plan k trials one) (sym (let z : p ≡ q = omega arith in z)) s, tt)
searches-push plan p q [] (other ∷ found) trials one e h s = absurd h
searches-push plan p q (first ∷ searches) [] trials one e h s = absurd h
searches-push plan p q (first ∷ searches) (other ∷ found) trials one e h s = (h.0, searches-push plan (p + 1) q searches found trials one (omega arith) h.1 s)

tried-push : {R : Type 0} (ran : PlanView → List Handed → R → R → Type 0) (ended : R → Bool) (plan : PlanView) (p q : ℕ) (searches : List (List Trial)) (trials : List Trial) (a b c : R)
    → p + length searches ≡ q → AreTried ran ended plan p searches a b → AreTrials ran ended plan q trials b c → AreTried ran ended plan p (searches ++ trials ∷ []) a c
tried-push {R} ran ended plan p q [] trials a b c e h t =
    (c, subst (λ (s : R). AreTrials ran ended plan p trials s c) h (subst (λ k. AreTrials ran ended plan k trials b c) (sym (let z : p ≡ q = omega arith in z)) t), refl)
tried-push ran ended plan p q (first ∷ searches) trials a b c e h t =
    (h.0, h.1, tried-push ran ended plan (p + 1) q searches trials h.0 b c (omega arith) h.2 t)

-- the next package was searched
pub searched-more : {R : Type 0} (ran : PlanView → List Handed → R → R → Type 0) (ended : R → Bool) (plan : PlanView) (found : List Found) (one : Found) (a b c : R) → AreSearched ran ended plan found a b
    → (trials : List Trial) → AreTrials ran ended plan (length found) trials b c → IsFound (uses_of plan (length found)) trials one → AreSearched ran ended plan (found ++ one ∷ []) a c
searched-more ran ended plan found one a b c s trials did is =
    let long = searches-long plan 0 s.searches found s.say in
    let of : IsSearchOf plan (length found) trials one = record { each = trials-each ran ended plan (length found) trials b c did; says = is } in
    record {
      searches = s.searches ++ trials ∷ [];
      tried = tried-push ran ended plan 0 (length found) s.searches trials a b c (omega (arith, long)) s.tried did;
      say = searches-push plan 0 (length found) s.searches found trials one (omega arith) s.say of;
    }

-- the same by the number of packages before it
pub searched-next : {R : Type 0} (ran : PlanView → List Handed → R → R → Type 0) (ended : R → Bool) (plan : PlanView) (p : ℕ) (found : List Found) (one : Found) (a b c : R) → length found ≡ p → AreSearched ran ended plan found a b
    → (trials : List Trial) × AreTrials ran ended plan p trials b c × IsFound (uses_of plan p) trials one → AreSearched ran ended plan (found ++ one ∷ []) a c
searched-next ran ended plan p found one a b c long s did =
    searched-more ran ended plan found one a b c s did.0 (subst (λ (q : ℕ). AreTrials ran ended plan q did.0 b c) (sym long) did.1) (subst (λ (q : ℕ). IsFound (uses_of plan q) did.0 one) (sym long) did.2)

-- ---- a search that was broken off

zip-has : {A B : Type 0} (R : A → B → Type 0) (xs : List A) (ys : List B) (x : A) → AllZip R xs ys → Contains xs x → (y : B) × Contains ys y × R x y
zip-has R [] ys x zip has = absurd (Contains-nil x has)
zip-has R (z ∷ xs) [] x zip has = absurd zip
zip-has {A} {B} R (z ∷ xs) (y ∷ ys) x zip has =
    elim (Contains-cons_cases z xs x has) [
      | inl e ↦ (y, Contains-head y ys, subst (λ (v : A). R v y) e zip.0)
      | inr w ↦ let r = zip-has R xs ys x zip.1 w in (r.0, Contains-tail y ys r.0 r.1, r.2)
    ]

came-broken : (c : Came) → outcome_of c ≡ outcome.Broken → c ≡ came.Broken
came-broken came.Passed is = absurd (cc is)
came-broken (came.Failed place) is = absurd (cc is)
came-broken came.Broken is = refl

-- what a part of some lists has, all of them have
flat-has : {X Y : Type 0} (f : X → List Y) (xs : List X) (x : X) (y : Y) → Contains xs x → Contains (f x) y → Contains (flat_map f xs) y
flat-has f [] x y has in-it = absurd (Contains-nil x has)
flat-has {X} f (z ∷ xs) x y has in-it =
    elim (Contains-cons_cases z xs x has) [
      | inl e ↦ Contains-append_left (f z) (flat_map f xs) y (subst (λ (v : X). Contains (f v) y) (sym e) in-it)
      | inr w ↦ Contains-append_right (f z) (flat_map f xs) y (flat-has f xs x y w in-it)
    ]

-- a trial that is broken has a step that failed
trial-fails : (steps : List Step) (handed : List Handed) (ended : Bool) → ComesTo ended steps handed came.Broken → (h : Handed) × Contains handed h × (h.outcome ≡ step.Failed)
trial-fails steps handed ended c =
    let last = failed_step c.0 in
    (last, subst (λ l. Contains l last) (sym c.1.told) (Contains-push (map passed_step c.1.front) last), refl)

search-fails : (plan : PlanView) (p : ℕ) (trials : List Trial) → IsSearchOf plan p trials Broken → (h : Handed) × Contains (handed_in trials) h × (h.outcome ≡ step.Failed)
search-fails plan p trials s =
    let a = s.says.search.answered in
    let last : Tried = record { place = a.1; outcome = outcome.Broken } in
    let t = zip-has (IsTrialAt (uses_of plan p)) s.says.tried trials last s.says.same (subst (λ l. Contains l last) (sym a.2) (Contains-push a.0 last)) in
    let one = All-contains (λ t. (e : Bool) × IsTrial plan p e t) trials t.0 s.each t.1 in
    let f = trial-fails _ t.0.handed one.0 (subst (λ (c : Came). ComesTo one.0 (trial_steps plan p one.1.version) t.0.handed c) (came-broken t.0.came (sym t.2.outcome)) one.1.comes) in
    (f.0, flat-has (λ (t : Trial). t.handed) trials t.0 f.0 t.1 f.1, f.2)

-- where a search was broken off, a step failed
pub broken_fails : (plan : PlanView) (p : ℕ) (searches : List (List Trial)) (found : List Found) → AreSearches plan p searches found → Contains found Broken
    → (h : Handed) × Contains (handed_in_all searches) h × (h.outcome ≡ step.Failed)
broken_fails plan p [] [] s has = absurd (Contains-nil Broken has)
broken_fails plan p [] (one ∷ found) s has = absurd s
broken_fails plan p (trials ∷ searches) [] s has = absurd s
broken_fails plan p (trials ∷ searches) (one ∷ found) s has =
    elim (Contains-cons_cases one found Broken has) [
      | inl e ↦ let f = search-fails plan p trials (subst (IsSearchOf plan p trials) e s.0) in (f.0, Contains-append_left (handed_in trials) (handed_in_all searches) f.0 f.1, f.2)
      | inr w ↦ let f = broken_fails plan (p + 1) searches found s.1 w in (f.0, Contains-append_right (handed_in trials) (handed_in_all searches) f.0 f.1, f.2)
    ]

-- ---- the search for one package

pub found-version : {R : Type 0} (ran : PlanView → List Handed → R → R → Type 0) (ended : R → Bool) (plan : PlanView) (p : ℕ) (uses : List ℕ) (greatest : ℕ) (answer : LeastPlace) (tried : List Tried) (failed : Option ℕ) (a b : R)
    → uses ≡ uses_of plan p → 0 < length uses → greatest ≡ length uses - 1 → MayTry ran ended plan p uses tried None failed a b → IsSearch greatest tried answer → IsRight greatest tried answer
    → (found : Found) → found ≡ found_of uses answer failed → (trials : List Trial) × AreTrials ran ended plan p trials a b × IsFound (uses_of plan p) trials found
found-version ran ended plan p uses greatest answer tried failed a b is some top may seek right found says =
    let seeks : IsSearch (length uses - 1) tried answer = subst (λ (g : ℕ). IsSearch g tried answer) top seek in
    let rights : IsRight (length uses - 1) tried answer = subst (λ (g : ℕ). IsRight g tried answer) top right in
    let there : All (λ (t : Tried). HasVersion plan uses t.place) tried =
    subst (λ (us : List ℕ). All (λ (t : Tried). HasVersion plan us t.place) tried) (sym is)
    (all-within plan p tried answer (subst (λ (us : List ℕ). 0 < length us) is some) (subst (λ (us : List ℕ). IsSearch (length us - 1) tried answer) is seeks)) in
    let did = may there in (
      did.trials,
      did.did,
      subst (λ (us : List ℕ). IsFound us did.trials found) is
          (subst (λ (f : Found). IsFound uses did.trials f) (sym (says ∙ ap (found_of uses answer) did.kept)) (is-found uses tried did.trials answer some did.same seeks rights)),
    )
