-- Sets that were built, one after the other.
use Rattle.std.specs.Prelude.{ℕ, ◌≡◌, ◌≢◌, ◌+◌, ◌||◌, Bool, true, false, List, [], ◌∷◌, ◌++◌, All, IsSomeAnd, Option, length}
use Rattle.std.proofs.Common.{refl, sym, ap, ◌∙◌, subst, inl, inr, arith, get_or}
use Rattle.std.proofs.lemmas.Bool.{true≢false}
use Rattle.std.proofs.lemmas.List.{append_assoc, append-nil, get_or-append-add, get_or_append_left, get_or_default, length-append, nil_from_length}
use Rattle.std.proofs.lemmas.List.Folds.{Any-from_list_any, list_any-from_Any}
use Rattle.std.proofs.lemmas.List.Elements.{All-append, All-cons, All-contains, All-nil, Contains-append_left, Contains-append_right, Contains-get_or}
use Rattle.hack_closures.specs.View.{search_of}
use Rattle.hack_conflicts.specs.Rules.{IsChoice}
use Rattle.hack_conflicts.specs.Runs.{AreWhole, Run as Asked}
use Rattle.hack_conflicts.specs.declared.tried.BuildOutcome.{BuildOutcome}
use Rattle.hack_conflicts.specs.declared.tried.BuildOutcome.TheVariants.{Broken, Failed, Passed}
use Rattle.hack_plan.specs.Growth.{IsGrown, with_run}
use Rattle.hack_plan.specs.GrowthLaws.{grown_by_run, grown_refl, grown_trans}
use Rattle.hack_plan.specs.Plans.{AreRunsOfPackages}
use Rattle.hack_plan.specs.View.{PlanView}
use Rattle.hack_session.specs.GrownSteps.{AreRuns}
use Rattle.hack_session.specs.StepEffects.{is_run}
use Rattle.hack_session.specs.declared.step.Handed.{Handed}
use Rattle.hack_culprits.specs.Built.{AreHanded, AreUnbroken, BuildsInTurn, Explains, IsAsked, IsBuilt, Made, step_at, with_made}
use Rattle.hack_culprits.specs.Internal.{KeepsWhy, MayBreakLast, MayBuild, has_broken, is_broken}
use Rattle.hack_culprits.specs.declared.aim.Aim.{Aim}
use Rattle.hack_culprits.specs.declared.fault.CulpritsFault.{CulpritsFault}

all-left : {X : Type 0} (P : X → Type 0) (xs ys : List X) → All P (xs ++ ys) → All P xs
all-left P xs ys h = λ k d lt. All-contains P (xs ++ ys) (get_or xs k d) h (Contains-append_left xs ys (get_or xs k d) (Contains-get_or xs k d lt))

all-right : {X : Type 0} (P : X → Type 0) (xs ys : List X) → All P (xs ++ ys) → All P ys
all-right P xs ys h = λ k d lt. All-contains P (xs ++ ys) (get_or ys k d) h (Contains-append_right xs ys (get_or ys k d) (Contains-get_or ys k d lt))

all-weaker : {X : Type 0} (P Q : X → Type 0) (xs : List X) → ((x : X) → P x → Q x) → All P xs → All Q xs
all-weaker P Q xs f h = λ k d lt. f (get_or xs k d) (h k d lt)

-- ---- plans

-- runs that are added after others
made-append : (slot member : ℕ) (xs ys : List Made) (plan : PlanView) → with_made slot member (xs ++ ys) plan ≡ with_made slot member ys (with_made slot member xs plan)
made-append slot member [] ys plan = refl
made-append slot member (m ∷ xs) ys plan = made-append slot member xs ys (with_run slot member m.run plan)

pub made_grows : (slot member : ℕ) (xs : List Made) (plan : PlanView) → IsGrown plan (with_made slot member xs plan)
made_grows slot member [] plan = grown_refl plan
made_grows slot member (m ∷ xs) plan =
    grown_trans plan (with_run slot member m.run plan) (with_made slot member xs (with_run slot member m.run plan)) (grown_by_run slot member m.run plan) (made_grows slot member xs (with_run slot member m.run plan))

pub made_places : (slot member : ℕ) (xs : List Made) (plan : PlanView) → length (with_made slot member xs plan).entries ≡ length plan.entries + length xs
made_places slot member [] plan = omega arith
made_places slot member (m ∷ xs) plan =
    let rest = made_places slot member xs (with_run slot member m.run plan) in
    let here : length (with_run slot member m.run plan).entries ≡ length plan.entries + 1 = length-append plan.entries _ in
    omega (arith, rest, here)

-- ---- steps

module _ {R : Type 0} (ran : PlanView → List Handed → R → R → Type 0) (ended : R → Bool) where
  -- steps on a plan are steps on what it has grown to
  pub handed_grown : ((old new : PlanView) (steps : List Handed) (x y : R) → IsGrown old new → old.call.grows ≡ true → AreRunsOfPackages old.packages old.entries → AreRuns steps → ran old steps x y → ran new steps x y)
      → (old new : PlanView) → IsGrown old new → old.call.grows ≡ true → AreRunsOfPackages old.packages old.entries
      → (place : ℕ) (made : List Made) (a b : R) → AreHanded ran ended old place made a b → AreHanded ran ended new place made a b
  handed_grown law old new grown grows runs place [] a b h = h
  handed_grown law old new grown grows runs place (m ∷ made) a b h = (
    h.0,
    law old new (step_at place m ∷ []) a h.0 grown grows runs (All-cons (λ (h : Handed). is_run h.step ≡ true) (step_at place m) [] refl (All-nil (λ (h : Handed). is_run h.step ≡ true))) h.1,
    h.2,
    handed_grown law old new grown grows runs (place + 1) made h.0 b h.3,
  )

  pub handed_append : (plan : PlanView) (place : ℕ) (xs ys : List Made) (a b c : R) → AreHanded ran ended plan place xs a b → AreHanded ran ended plan (place + length xs) ys b c → AreHanded ran ended plan place (xs ++ ys) a c
  handed_append plan place [] ys a b c p q =
      let here : place + 0 ≡ place = omega arith in
      subst (λ (n : ℕ). AreHanded ran ended plan n ys a c) here (subst (λ (s : R). AreHanded ran ended plan (place + 0) ys s c) p q)
  handed_append plan place (m ∷ xs) ys a b c p q =
      let there : place + length (m ∷ xs) ≡ place + 1 + length xs = omega arith in
      (p.0, p.1, p.2, handed_append plan (place + 1) xs ys p.0 b c p.3 (subst (λ (n : ℕ). AreHanded ran ended plan n ys b c) there q))

-- ---- sets

built-more : (aim : Aim) (before added : List Made) (one : Asked) → IsBuilt aim before one → IsBuilt aim (before ++ added) one
built-more aim before added one (inl h) = inl (h.0, Contains-append_left before added h.0 h.1, h.2)
built-more aim before added one (inr h) = inr h

-- sets that were built in turn, and then more
turns-more : (aim : Aim) (asked more : List Asked) (first mid last : List Made) → BuildsInTurn aim asked first mid → BuildsInTurn aim more mid last → BuildsInTurn aim (asked ++ more) first last
turns-more aim [] more first mid last front back = subst (λ (l : List Made). BuildsInTurn aim more l last) front back
turns-more aim (one ∷ asked) more first mid last front back = (front.0, front.1, turns-more aim asked more front.0 mid last front.2 back)

asked-left : (aim : Aim) (asked more : List Asked) (m : Made) → IsAsked aim asked m → IsAsked aim (asked ++ more) m
asked-left aim asked more m h = (h.0, Contains-append_left asked more h.0 h.1, h.2)

asked-right : (aim : Aim) (asked more : List Asked) (m : Made) → IsAsked aim more m → IsAsked aim (asked ++ more) m
asked-right aim asked more m h = (h.0, Contains-append_right asked more h.0 h.1, h.2)

-- runs that were built for sets of which none was broken
pub unbroken_added : (aim : Aim) (asked : List Asked) (added : List Made) → AreWhole asked → All (IsAsked aim asked) added → AreUnbroken added
unbroken_added aim asked added whole needed = λ k d lt is.
    let one = needed k d lt in
    All-contains (λ (run : Asked). run.outcome ≢ Broken) asked one.0 whole one.1 (sym one.2.told ∙ is)

broken-is : (o : BuildOutcome) → is_broken o ≡ true → o ≡ Broken
broken-is Passed e = absurd (true≢false (sym e))
broken-is Failed e = absurd (true≢false (sym e))
broken-is Broken e = refl

pub none_broken : (asked : List Asked) → has_broken asked ≡ false → AreWhole asked
none_broken asked fine = λ k d lt is.
    let some = list_any-from_Any (λ (one : Asked). is_broken one.outcome) asked (k, get_or asked k d, lt, get_or_default asked k (get_or asked k d) d lt, ap is_broken is) in
    true≢false (sym some ∙ fine)

-- nothing was asked for behind a broken set
none-behind : (asked more : List Asked) → MayBreakLast (asked ++ more) → has_broken asked ≡ true → more ≡ []
none-behind asked [] last some = refl
none-behind asked (one ∷ more) last some =
    let at = Any-from_list_any (λ (one : Asked). is_broken one.outcome) asked some in
    let same : get_or (asked ++ one ∷ more) at.0 at.1 ≡ at.1 = get_or_append_left asked (one ∷ more) at.1 at.0 at.2 ∙ at.3 in
    absurd (last at.0 (length asked) at.1 at.2 (omega (arith, length-append asked (one ∷ more))) (ap (λ (run : Asked). run.outcome) same ∙ broken-is at.1.outcome at.4))

last-left : (asked more : List Asked) → MayBreakLast (asked ++ more) → MayBreakLast asked
last-left asked more last = λ i j d lt le.
    subst (λ (run : Asked). run.outcome ≢ Broken) (get_or_append_left asked more d i (omega (arith, lt, le))) (last i j d lt (omega (arith, le, length-append asked more)))

last-right : (asked more : List Asked) → MayBreakLast (asked ++ more) → MayBreakLast more
last-right asked more last = λ i j d lt le.
    subst (λ (run : Asked). run.outcome ≢ Broken) (get_or-append-add asked more i d) (last (length asked + i) (length asked + j) d (omega (arith, lt)) (omega (arith, le, length-append asked more)))

-- of the first and the second sets: why one was broken is kept, where all that were asked for are such
kept-more : (left right : Bool) (P Q S : Type 0) (mid last : List Made) (between new : PlanView) (before then now : Option CulpritsFault)
    → (S → P) → (left ≡ false → S → Q) → (left ≡ true → S → (last ≡ mid) × (new ≡ between) × (right ≡ false))
    → KeepsWhy P left mid between before then → KeepsWhy Q right last new then now → KeepsWhy S (left || right) last new before now
kept-more false false P Q S mid last between new before then now first second none p q = q ∙ p
kept-more false true P Q S mid last between new before then now first second none p q = λ s. q (second refl s)
kept-more true false P Q S mid last between new before then now first second none p q = λ s.
    let same = none refl s in
    subst (λ (o : Option CulpritsFault). IsSomeAnd o (λ w. Explains w last new)) (sym q)
    (subst (λ (l : List Made). IsSomeAnd then (λ w. Explains w l new)) (sym same.0) (subst (λ (v : PlanView). IsSomeAnd then (λ w. Explains w mid v)) (sym same.1) (p (first s))))
kept-more true true P Q S mid last between new before then now first second none p q = λ s. absurd (true≢false (none refl s).2)

or-assoc : (a b c : Bool) → (a || b) || c ≡ a || (b || c)
or-assoc true b c = refl
or-assoc false b c = refl

broken-append : (asked more : List Asked) → has_broken (asked ++ more) ≡ has_broken asked || has_broken more
broken-append [] more = refl
broken-append (one ∷ asked) more = ap (λ b. is_broken one.outcome || b) (broken-append asked more) ∙ sym (or-assoc (is_broken one.outcome) (has_broken asked) (has_broken more))

pub builds_none : {R : Type 0} (ran : PlanView → List Handed → R → R → Type 0) (ended : R → Bool) (aim : Aim) (built : List Made) (why : Option CulpritsFault) (plan : PlanView) (a : R)
    → MayBuild ran ended aim [] built built why why plan plan a a
builds_none ran ended aim built why plan a ready choices = record {
  ready = ready;
  built = record {
    added = [];
    made = record {
      built = sym (append-nil built);
      plan = refl;
      distinct = λ apart. apart;
      turns = refl;
      each = All-nil (IsBuilt aim built);
      needed = All-nil (IsAsked aim []);
      few = omega arith;
    };
    handed = refl;
  };
  kept = refl;
}

pub builds_more : {R : Type 0} (ran : PlanView → List Handed → R → R → Type 0) (ended : R → Bool)
    → ((old new : PlanView) (steps : List Handed) (x y : R) → IsGrown old new → old.call.grows ≡ true → AreRunsOfPackages old.packages old.entries → AreRuns steps → ran old steps x y → ran new steps x y)
    → (aim : Aim) (asked more : List Asked) (first mid last : List Made) (why then now : Option CulpritsFault) (old between new : PlanView) (a b c : R)
    → MayBuild ran ended aim asked first mid why then old between a b → MayBuild ran ended aim more mid last then now between new b c → MayBuild ran ended aim (asked ++ more) first last why now old new a c
builds_more {R} ran ended law aim asked more first mid last why then now old between new a b c front back ready choices =
    let choice : Asked → Type 0 = λ one. IsChoice (search_of aim.closures.now) one.set in
    let f = front ready (all-left choice asked more choices) in
    let r = back f.ready (all-right choice asked more choices) in
    let xs = f.built.added in
    let ys = r.built.added in
    let one = f.built.made in
    let two = r.built.made in
    let grown : IsGrown between new = subst (IsGrown between) (sym two.plan) (made_grows aim.slot aim.member ys between) in
    let places : length between.entries ≡ length old.entries + length xs = ap (λ (p : PlanView). length p.entries) one.plan ∙ made_places aim.slot aim.member xs old in
    let last_is : last ≡ mid ++ ys = two.built in
    let nothing-more : more ≡ [] → (last ≡ mid) × (new ≡ between) × (has_broken more ≡ false) = λ none.
    let added : ys ≡ [] = nil_from_length ys (let few = two.few in omega (arith, few, ap length none)) in (
      last_is ∙ ap (λ (l : List Made). mid ++ l) added ∙ append-nil mid,
      two.plan ∙ ap (λ (l : List Made). with_made aim.slot aim.member l between) added,
      ap has_broken none,
    ) in
    record {
      ready = r.ready;
      built = record {
        added = xs ++ ys;
        made = record {
          built = last_is ∙ ap (λ (l : List Made). l ++ ys) one.built ∙ append_assoc first xs ys;
          plan = two.plan ∙ ap (with_made aim.slot aim.member ys) one.plan ∙ sym (made-append aim.slot aim.member xs ys old);
          distinct = λ apart. two.distinct (one.distinct apart);
          turns = turns-more aim asked more first mid last one.turns two.turns;
          each = All-append (IsBuilt aim last) asked more (all-weaker (IsBuilt aim mid) (IsBuilt aim last) asked (λ a h. subst (λ (l : List Made). IsBuilt aim l a) (sym last_is) (built-more aim mid ys a h)) one.each) two.each;
          needed = All-append (IsAsked aim (asked ++ more)) xs ys (all-weaker (IsAsked aim asked) (IsAsked aim (asked ++ more)) xs (asked-left aim asked more) one.needed)
              (all-weaker (IsAsked aim more) (IsAsked aim (asked ++ more)) ys (asked-right aim asked more) two.needed);
          few = let x = one.few in let y = two.few in omega (arith, x, y, length-append xs ys, length-append asked more);
        };
        handed = handed_append ran ended new (length old.entries) xs ys a b c (handed_grown ran ended law between new grown f.ready.room.grows f.ready.runs (length old.entries) xs a b f.built.handed)
            (subst (λ (n : ℕ). AreHanded ran ended new n ys b c) places r.built.handed);
      };
      kept = subst (λ (b : Bool). KeepsWhy (MayBreakLast (asked ++ more) × AreUnbroken first) b last new why now) (sym (broken-append asked more))
          (kept-more (has_broken asked) (has_broken more) (MayBreakLast asked × AreUnbroken first) (MayBreakLast more × AreUnbroken mid) (MayBreakLast (asked ++ more) × AreUnbroken first) mid last between new why then now
          (λ s. (last-left asked more s.0, s.1))
          (λ fine s. (last-right asked more s.0, subst AreUnbroken (sym one.built) (All-append (λ (m : Made). m.outcome ≢ Broken) first xs s.1 (unbroken_added aim asked xs (none_broken asked fine) one.needed))))
          (λ some s. nothing-more (none-behind asked more s.0 some)) f.kept r.kept);
    }
