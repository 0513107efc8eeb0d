-- What it takes to build one set.
use Rattle.std.specs.Prelude.{ℕ, ◌≡◌, ◌≢◌, ◌<◌, ◌+◌, ◌-◌, ◌||◌, Bool, true, false, List, zero, suc, [], ◌∷◌, ◌++◌, All, Contains, IsErrAnd, IsSomeAnd, Option, None, Some, unwrap_or, Result, Ok, Err, length}
use Rattle.std.proofs.Common.{refl, sym, ap, ◌∙◌, subst, inl, inr, arith}
use Rattle.std.proofs.lemmas.List.{append-nil, map-append}
use Rattle.std.proofs.lemmas.List.Quantifiers.{all_pairs_push}
use Rattle.std.proofs.lemmas.List.Elements.{All-cons, All-contains, All-nil, Contains-append_right}
use Rattle.hack_base.proofs.Members.{Contains-head}
use Rattle.hack_closures.specs.View.{search_of}
use Rattle.hack_conflicts.specs.Runs.{AreWhole, Finding, IsCourse, IsFinding, Run as Asked}
use Rattle.hack_conflicts.specs.declared.tried.BuildOutcome.{BuildOutcome}
use Rattle.hack_conflicts.specs.declared.tried.BuildOutcome.TheVariants.{Broken, Failed, Passed}
use Rattle.hack_plan.proofs.GrowingPlans.{runs-grown}
use Rattle.hack_plan.specs.Growth.{RefusesRun, with_changed, with_one_place, with_one_run, with_run}
use Rattle.hack_plan.specs.Runs.{PackageRun}
use Rattle.hack_plan.specs.View.{PlanView}
use Rattle.hack_plan.specs.declared.places.PlacesFault.{PlacesFault}
use Rattle.hack_plan.specs.declared.places.PlacesFault.TheVariants as places
use Rattle.hack_session.specs.declared.step.Handed.{Handed}
use Rattle.hack_culprits.specs.Built.{Answers, AreBrokenLast, AreDistinct, AreHanded, AreMade, AreUnbroken, BuildsInTurn, Explains, IsAsked, IsBuilt, IsCutShort, IsRunFor, Made, RanHunt, Tells, run_for, fault_of, step_at, steps_from}
use Rattle.hack_culprits.specs.Internal.{Builds, BuildsOne, IsReady, KeepsWhy, MayBreakLast, has_broken, is_broken, kept_of, made_in, outcome_of, told_of}
use Rattle.hack_culprits.specs.JoinedBuilds.{none_broken, unbroken_added}
use Rattle.hack_culprits.specs.declared.aim.Aim.{Aim}
use Rattle.hack_culprits.specs.declared.built.Built.{Built}
use Rattle.hack_culprits.specs.declared.fault.CulpritsFault.{CulpritsFault}
use Rattle.hack_culprits.specs.declared.fault.CulpritsFault.TheVariants as fault

pub length_changed : {X : Type 0} (change : X → X) (xs : List X) (place : ℕ) → length (with_changed change xs place) ≡ length xs
length_changed change [] place = refl
length_changed change (x ∷ xs) zero = refl
length_changed change (x ∷ xs) (suc place) = ap suc (length_changed change xs place)

-- one run more can be added again
pub still_ready : (aim : Aim) (run : PackageRun) (plan : PlanView) → IsReady aim plan → IsReady aim (with_run aim.slot aim.member run plan)
still_ready aim run plan ready = record {
  room = record {
    grows = ready.room.grows;
    version = subst (λ n. 0 < n) (sym (length_changed with_one_place plan.versions (length plan.versions - 1))) ready.room.version;
    member = subst (λ n. aim.member < n) (sym (length_changed (with_one_run run) plan.packages aim.member)) ready.room.member;
  };
  runs = runs-grown run aim.slot aim.member plan.packages plan.entries ready.room.member ready.runs;
  order = ready.order;
}

-- nothing was built, since memory was refused or the plan is full
pub nothing_built : {R : Type 0} (ran : PlanView → List Handed → R → R → Type 0) (ended : R → Bool) (aim : Aim) (set : List Bool) (why : CulpritsFault) (built : List Made) (plan : PlanView) (a : R)
    → (AreUnbroken built → Explains why built plan) → IsReady aim plan → BuildsOne ran ended aim set (Err why) built built plan plan a a
nothing_built ran ended aim set why built plan a explained ready = record {
  ready = ready;
  built = record {
    added = [];
    made = record {
      built = sym (append-nil built);
      plan = refl;
      distinct = λ apart. apart;
      turns = (built, inl (refl, inr refl), refl);
      each = All-cons (IsBuilt aim built) (record { set = set; outcome = Broken }) [] (inr refl) (All-nil (IsBuilt aim built));
      needed = All-nil (IsAsked aim (record { set = set; outcome = Broken } ∷ []));
      few = omega arith;
    };
    handed = refl;
  };
  kept = λ first. explained;
}

-- the same, by what came of it
pub refused_build : {R : Type 0} (ran : PlanView → List Handed → R → R → Type 0) (ended : R → Bool) (aim : Aim) (set : List Bool) (came : Result BuildOutcome CulpritsFault) (before after : List Made) (old new : PlanView) (a : R)
    → IsErrAnd came (λ why. why ≡ fault.Memory) → after ≡ before → new ≡ old → IsReady aim old → BuildsOne ran ended aim set came before after old new a a
refused_build ran ended aim set (Ok o) before after old new a refused same stays ready = absurd refused
refused_build ran ended aim set (Err why) before after old new a refused same stays ready =
    subst (λ (w : CulpritsFault). BuildsOne ran ended aim set (Err w) before after old new a a) (sym refused)
    (subst (λ (l : List Made). BuildsOne ran ended aim set (Err fault.Memory) before l old new a a) (sym same)
    (subst (λ (p : PlanView). BuildsOne ran ended aim set (Err fault.Memory) before before old p a a) (sym stays)
    (nothing_built ran ended aim set fault.Memory before old a (λ unbroken. unbroken) ready)))

explained-growth : (why : PlacesFault) (made : List Made) (plan : PlanView) → RefusesRun plan.entries why → AreUnbroken made → Explains (fault_of why) made plan
explained-growth places.Memory made plan refused unbroken = unbroken
explained-growth places.TooManyRuns made plan (inl full) unbroken = (unbroken, let is = full.0 in omega (arith, is))
explained-growth places.TooManyRuns made plan (inr other) unbroken = let e = other.1 in absurd cc

-- a plan that can't grow
pub refused_growth : {R : Type 0} (ran : PlanView → List Handed → R → R → Type 0) (ended : R → Bool) (aim : Aim) (set : List Bool) (came : Result BuildOutcome CulpritsFault) (given : PlacesFault) (before after : List Made) (old new : PlanView) (a : R)
    → IsErrAnd came (λ why. why ≡ fault_of given) → after ≡ before → new ≡ old → RefusesRun old.entries given → IsReady aim old → BuildsOne ran ended aim set came before after old new a a
refused_growth ran ended aim set (Ok o) given before after old new a refused same stays cause ready = absurd refused
refused_growth ran ended aim set (Err why) given before after old new a refused same stays cause ready =
    subst (λ (w : CulpritsFault). BuildsOne ran ended aim set (Err w) before after old new a a) (sym refused)
    (subst (λ (l : List Made). BuildsOne ran ended aim set (Err (fault_of given)) before l old new a a) (sym same)
    (subst (λ (p : PlanView). BuildsOne ran ended aim set (Err (fault_of given)) before before old p a a) (sym stays)
    (nothing_built ran ended aim set (fault_of given) before old a (explained-growth given before old cause) ready)))

pub made_push : (plain : Bool) (built items : List Built) (b : Built) → items ≡ built ++ b ∷ [] → made_in plain items ≡ made_in plain built ++ record { run = run_for plain b.build; outcome = b.outcome } ∷ []
made_push plain built items b is = ap (made_in plain) is ∙ map-append (λ (b : Built). record { run = run_for plain b.build; outcome = b.outcome }) built (b ∷ [])

told-outcome : (o : BuildOutcome) → outcome_of (told_of o) ≡ o
told-outcome Passed = refl
told-outcome Failed = refl
told-outcome Broken = refl

told-kept : (o : BuildOutcome) (built made : List Made) (plan : PlanView) → (o ≡ Broken → AreUnbroken built → AreBrokenLast made) → (first : Option CulpritsFault) → KeepsWhy (AreUnbroken built) (is_broken (outcome_of (told_of o))) made plan first (kept_of (told_of o) first)
told-kept Passed built made plan last first = refl
told-kept Failed built made plan last first = refl
told-kept Broken built made plan last first = last refl

-- what stands for the set was built before
pub built_before : {R : Type 0} (ran : PlanView → List Handed → R → R → Type 0) (ended : R → Bool) (aim : Aim) (set : List Bool) (run : PackageRun) (o : BuildOutcome) (built : List Made) (plan : PlanView) (a : R)
    → IsRunFor aim set run → Contains built (record { run = run; outcome = o }) → IsReady aim plan → BuildsOne ran ended aim set (told_of o) built built plan plan a a
built_before ran ended aim set run o built plan a fits there ready =
    let m : Made = record { run = run; outcome = o } in
    let one : Asked = record { set = set; outcome = outcome_of (told_of o) } in
    record {
      ready = ready;
      built = record {
        added = [];
        made = record {
          built = sym (append-nil built);
          plan = refl;
          distinct = λ apart. apart;
          turns = (built, inl (refl, inl (m, there, record { fits = fits; told = sym (told-outcome o) })), refl);
          each = All-cons (IsBuilt aim built) one [] (inl (m, there, record { fits = fits; told = sym (told-outcome o) })) (All-nil (IsBuilt aim built));
          needed = All-nil (IsAsked aim (one ∷ []));
          few = omega arith;
        };
        handed = refl;
      };
      kept = told-kept o built built plan (λ is unbroken. absurd (All-contains (λ (m : Made). m.outcome ≢ Broken) built m unbroken there is));
    }

-- the run was added to the plan, handed out, and ended so
pub built_now : {R : Type 0} (ran : PlanView → List Handed → R → R → Type 0) (ended : R → Bool) (aim : Aim) (set : List Bool) (run : PackageRun) (o : BuildOutcome) (built after : List Made) (old new : PlanView) (a b : R)
    → IsRunFor aim set run → All (λ m. m.run ≢ run) built → after ≡ built ++ record { run = run; outcome = o } ∷ [] → new ≡ with_run aim.slot aim.member run old
    → ran new (step_at (length old.entries) (record { run = run; outcome = o }) ∷ []) a b → Tells (ended b) o → IsReady aim old → BuildsOne ran ended aim set (told_of o) built after old new a b
built_now ran ended aim set run o built after old new a b fits fresh is grown did tells ready =
    let m : Made = record { run = run; outcome = o } in
    let one : Asked = record { set = set; outcome = outcome_of (told_of o) } in
    let answers : Answers aim one m = record { fits = fits; told = sym (told-outcome o) } in
    let there : Contains after m = subst (λ (l : List Made). Contains l m) (sym is) (Contains-append_right built (m ∷ []) m (Contains-head m [])) in
    record {
      ready = subst (IsReady aim) (sym grown) (still_ready aim run old ready);
      built = record {
        added = m ∷ [];
        made = record {
          built = is;
          plan = grown;
          distinct = λ apart. subst AreDistinct (sym is) (all_pairs_push (λ (earlier later : Made). later.run ≢ earlier.run) built m apart (λ k d lt e. fresh k d lt (sym e)));
          turns = (after, inr (m, is, answers), refl);
          each = All-cons (IsBuilt aim after) one [] (inl (m, there, answers)) (All-nil (IsBuilt aim after));
          needed = All-cons (IsAsked aim (one ∷ [])) m [] (one, Contains-head one [], answers) (All-nil (IsAsked aim (one ∷ [])));
          few = omega arith;
        };
        handed = (b, did, tells, refl);
      };
      kept = told-kept o built after new (λ broken unbroken. (built, m, is, unbroken, broken));
    }

-- the steps of runs, one after the other
pub handed_ran : {R : Type 0} (ran : PlanView → List Handed → R → R → Type 0) (ended : R → Bool) → ((plan : PlanView) (a : R) → ran plan [] a a)
    → ((plan : PlanView) (steps more : List Handed) (a b c : R) → ran plan steps a b → ran plan more b c → ran plan (steps ++ more) a c)
    → (plan : PlanView) (place : ℕ) (made : List Made) (a b : R) → AreHanded ran ended plan place made a b → ran plan (steps_from place made) a b
handed_ran {R} ran ended none more plan place [] a b h = subst (λ (s : R). ran plan [] a s) (sym h) (none plan a)
handed_ran ran ended none more plan place (m ∷ made) a b h = more plan (step_at place m ∷ []) (steps_from (place + 1) made) a h.0 b h.1 (handed_ran ran ended none more plan (place + 1) made h.0 b h.3)

or-false : (b : Bool) → b || false ≡ b
or-false true = refl
or-false false = refl

kept-under : (P Q : Type 0) (broken : Bool) (made : List Made) (plan : PlanView) (before now : Option CulpritsFault) → (Q → P) → KeepsWhy P broken made plan before now → KeepsWhy Q broken made plan before now
kept-under P Q true made plan before now under kept = λ q. kept (under q)
kept-under P Q false made plan before now under kept = kept

-- one set was built, and why it was broken is kept
pub built_alone : {R : Type 0} (ran : PlanView → List Handed → R → R → Type 0) (ended : R → Bool) (aim : Aim) (set : List Bool) (came : Result BuildOutcome CulpritsFault) (before after : List Made) (why now : Option CulpritsFault) (old new : PlanView) (a b : R)
    → BuildsOne ran ended aim set came before after old new a b → now ≡ kept_of came why → Builds ran ended aim (record { set = set; outcome = outcome_of came } ∷ []) before after why now old new a b
built_alone ran ended aim set came before after why now old new a b one kept = record {
  ready = one.ready;
  built = one.built;
  kept = subst (λ (broken : Bool). KeepsWhy (MayBreakLast (record { set = set; outcome = outcome_of came } ∷ []) × AreUnbroken before) broken after new why now) (sym (or-false (is_broken (outcome_of came))))
      (kept-under (AreUnbroken before) _ (is_broken (outcome_of came)) after new why now (λ alone. alone.1)
      (subst (λ (o : Option CulpritsFault). KeepsWhy (AreUnbroken before) (is_broken (outcome_of came)) after new why o) (sym kept) (one.kept why)));
}

-- ---- whole searches

-- what was built after nothing is what was added
pub from_nothing : (aim : Aim) (asked : List Asked) (before after added : List Made) (old new : PlanView) → before ≡ [] → AreMade aim asked before after added old new → AreMade aim asked [] added added old new
from_nothing aim asked before after added old new none made =
    let is : after ≡ added = made.built ∙ ap (λ (l : List Made). l ++ added) none in
    record {
      built = refl;
      plan = made.plan;
      distinct = λ apart. subst AreDistinct is (made.distinct (subst AreDistinct (sym none) apart));
      turns = subst (λ (l : List Made). BuildsInTurn aim asked l added) none (subst (BuildsInTurn aim asked before) is made.turns);
      each = subst (λ (l : List Made). All (IsBuilt aim l) asked) is made.each;
      needed = made.needed;
      few = made.few;
    }

explained-or : (o : Option CulpritsFault) (made : List Made) (plan : PlanView) → IsSomeAnd o (λ why. Explains why made plan) → Explains (unwrap_or o fault.Memory) made plan
explained-or None made plan h = absurd h
explained-or (Some why) made plan h = h

-- what is kept explains why a search was cut short
cause-kept : (P : Type 0) (broken : Bool) (made : List Made) (plan : PlanView) (now : Option CulpritsFault) → P → (broken ≡ false → AreUnbroken made) → KeepsWhy P broken made plan None now → Explains (unwrap_or now fault.Memory) made plan
cause-kept P true made plan now first unbroken kept = explained-or now made plan (kept first)
cause-kept P false made plan now first unbroken kept = subst (λ (o : Option CulpritsFault). Explains (unwrap_or o fault.Memory) made plan) (sym kept) (unbroken refl)

module _ {R : Type 0} (ran : PlanView → List Handed → R → R → Type 0) (ended : R → Bool) (none : (plan : PlanView) (a : R) → ran plan [] a a)
    (more : (plan : PlanView) (steps more : List Handed) (a b c : R) → ran plan steps a b → ran plan more b c → ran plan (steps ++ more) a c) where
  -- a search that came to its end
  pub ran_hunt : (aim : Aim) (most : Option ℕ) (f : Finding) (before after : List Made) (why now : Option CulpritsFault) (old new : PlanView) (a b : R)
      → before ≡ [] → Builds ran ended aim f.runs before after why now old new a b → IsFinding (search_of aim.closures.now) most f → RanHunt ran ended aim most f old new a b
  ran_hunt aim most f before after why now old new a b nothing builds found = record {
    made = builds.built.added;
    hunt = record {
      built = from_nothing aim f.runs before after builds.built.added old new nothing builds.built.made;
      unbroken = unbroken_added aim f.runs builds.built.added found.whole builds.built.made.needed;
      found = found;
    };
    handed = builds.built.handed;
    whole = handed_ran ran ended none more new (length old.entries) builds.built.added a b builds.built.handed;
  }

  -- a search that was cut short; what is kept explains why, or that no set was broken
  pub cut_hunt : (aim : Aim) (most : Option ℕ) (asked : List Asked) (before after : List Made) (now : Option CulpritsFault) (why : CulpritsFault) (old new : PlanView) (a b : R)
      → before ≡ [] → IsCourse (search_of aim.closures.now) most asked → Builds ran ended aim asked before after None now old new a b
      → ((made : List Made) → (AreWhole asked → AreUnbroken made) → Explains (unwrap_or now fault.Memory) made new → Explains why made new) → IsCutShort ran ended aim most why old new a b
  cut_hunt aim most asked before after now why old new a b nothing course builds explains =
      let added = builds.built.added in
      let is : after ≡ added = builds.built.made.built ∙ ap (λ (l : List Made). l ++ added) nothing in
      let unbroken : AreWhole asked → AreUnbroken added = λ whole. unbroken_added aim asked added whole builds.built.made.needed in
      let first : MayBreakLast asked × AreUnbroken before = (λ i j d lt le. (course.fresh i j d lt le).whole, subst AreUnbroken (sym nothing) (All-nil (λ (m : Made). m.outcome ≢ Broken))) in
      record {
        asked = asked;
        made = added;
        course = course;
        built = from_nothing aim asked before after added old new nothing builds.built.made;
        handed = builds.built.handed;
        whole = handed_ran ran ended none more new (length old.entries) added a b builds.built.handed;
        cause = explains added unbroken (cause-kept (MayBreakLast asked × AreUnbroken before) (has_broken asked) added new now first (λ fine. unbroken (none_broken asked fine))
            (subst (λ (l : List Made). KeepsWhy (MayBreakLast asked × AreUnbroken before) (has_broken asked) l new None now) is builds.kept));
      }
