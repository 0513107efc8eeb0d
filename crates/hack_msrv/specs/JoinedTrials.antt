-- Trials, one after the other.
use Rattle.std.specs.Prelude.{ℕ, ◌≡◌, Bool, List, [], ◌∷◌, ◌++◌, All, Option}
use Rattle.std.specs.List.{AllZip}
use Rattle.std.proofs.Common.{refl, sym, ap, ◌∙◌, subst, get_or}
use Rattle.std.proofs.lemmas.List.Elements.{All-contains, Contains-append_left, Contains-append_right, Contains-get_or}
use Rattle.hack_bisect.specs.Searches.{Trial as Tried}
use Rattle.hack_plan.specs.View.{PlanView}
use Rattle.hack_session.specs.declared.step.Handed.{Handed}
use Rattle.hack_msrv.specs.Internal.{HasVersion, MayTry, failed_after, kept}
use Rattle.hack_msrv.specs.Searches.{IsTrialAt}
use Rattle.hack_msrv.specs.Trials.{AreTrials, Trial}

all-left : {X : Type 0} (P : X → Type 0) (xs ys : List X) → All P (xs ++ ys) → All P xs
all-left P xs ys h = λ k d lt. All-contains P (xs ++ ys) (get_or xs k d) h (Contains-append_left xs ys (get_or xs k d) (Contains-get_or xs k d lt))

all-right : {X : Type 0} (P : X → Type 0) (xs ys : List X) → All P (xs ++ ys) → All P ys
all-right P xs ys h = λ k d lt. All-contains P (xs ++ ys) (get_or ys k d) h (Contains-append_right xs ys (get_or ys k d) (Contains-get_or ys k d lt))

zip-append : {A B : Type 0} (R : A → B → Type 0) (xs : List A) (ys : List B) (us : List A) (vs : List B) → AllZip R xs ys → AllZip R us vs → AllZip R (xs ++ us) (ys ++ vs)
zip-append R [] [] us vs p q = q
zip-append R [] (y ∷ ys) us vs p q = absurd p
zip-append R (x ∷ xs) [] us vs p q = absurd p
zip-append R (x ∷ xs) (y ∷ ys) us vs p q = (p.0, zip-append R xs ys us vs p.1 q)

pub trials_append : {R : Type 0} (ran : PlanView → List Handed → R → R → Type 0) (ended : R → Bool) (plan : PlanView) (p : ℕ) (trials more : List Trial) (a b c : R)
    → AreTrials ran ended plan p trials a b → AreTrials ran ended plan p more b c → AreTrials ran ended plan p (trials ++ more) a c
trials_append {R} ran ended plan p [] more a b c first rest = subst (λ (s : R). AreTrials ran ended plan p more s c) first rest
trials_append ran ended plan p (t ∷ trials) more a b c first rest =
    (first.0, first.1, first.2, trials_append ran ended plan p trials more first.0 b c first.3 rest)

failed-append : (failed : Option ℕ) (trials more : List Trial) → failed_after failed (trials ++ more) ≡ failed_after (failed_after failed trials) more
failed-append failed [] more = refl
failed-append failed (t ∷ trials) more = failed-append (kept t.came failed) trials more

pub tries_none : {R : Type 0} (ran : PlanView → List Handed → R → R → Type 0) (ended : R → Bool) (plan : PlanView) (p : ℕ) (uses : List ℕ) (failed : Option ℕ) (a : R)
    → MayTry ran ended plan p uses [] failed failed a a
tries_none ran ended plan p uses failed a there = record { trials = []; same = tt; did = refl; kept = refl }

pub tries_more : {R : Type 0} (ran : PlanView → List Handed → R → R → Type 0) (ended : R → Bool) (plan : PlanView) (p : ℕ) (uses : List ℕ) (tried more : List Tried) (failed mid now : Option ℕ) (a b c : R)
    → MayTry ran ended plan p uses tried failed mid a b → MayTry ran ended plan p uses more mid now b c → MayTry ran ended plan p uses (tried ++ more) failed now a c
tries_more ran ended plan p uses tried more failed mid now a b c first rest there =
    let f = first (all-left (λ t. HasVersion plan uses t.place) tried more there) in
    let r = rest (all-right (λ t. HasVersion plan uses t.place) tried more there) in
    record {
      trials = f.trials ++ r.trials;
      same = zip-append (IsTrialAt uses) tried f.trials more r.trials f.same r.same;
      did = trials_append ran ended plan p f.trials r.trials a b c f.did r.did;
      kept = r.kept ∙ ap (λ m. failed_after m r.trials) f.kept ∙ sym (failed-append failed f.trials r.trials);
    }
