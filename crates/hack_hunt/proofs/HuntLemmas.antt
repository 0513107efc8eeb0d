-- Searches, one after the other.
use Rattle.std.specs.Prelude.{ℕ, ◌≡◌, ◌≢◌, ◌<◌, ◌+◌, ◌-◌, Bool, true, List, [], ◌∷◌, ◌++◌, Option, Ok, Err, length}
use Rattle.std.specs.List.{flat_map}
use Rattle.std.proofs.Common.{refl, sym, ap, ◌∙◌, subst, inl, inr, arith}
use Rattle.std.proofs.lemmas.List.{append_assoc, append-nil, length-append}
use Rattle.std.proofs.lemmas.List.Elements.{All-append, All-nil}
use Rattle.hack_conflicts.specs.declared.tried.BuildOutcome.TheVariants.{Broken}
use Rattle.hack_culprits.proofs.BuildLemmas.{handed_ran, length_changed}
use Rattle.hack_culprits.specs.Built.{AreHanded, AreUnbroken, Explains, Made, with_made}
use Rattle.hack_culprits.specs.JoinedBuilds.{handed_append, handed_grown, made_grows, made_places}
use Rattle.hack_culprits.specs.declared.fault.CulpritsFault.{CulpritsFault}
use Rattle.hack_culprits.specs.declared.fault.CulpritsFault.TheVariants as fault
use Rattle.hack_load.specs.Contexts.{ContextRecord}
use Rattle.hack_plan.specs.Growth.{IsGrown, with_one_place, with_one_run, with_run}
use Rattle.hack_plan.specs.Plans.{AreRunsOfPackages}
use Rattle.hack_plan.specs.View.{PlanView}
use Rattle.hack_session.specs.GrownSteps.{AreRuns}
use Rattle.hack_session.specs.declared.step.Handed.{Handed}
use Rattle.hack_hunt.specs.Hunts.{AreHunts, EndsAt, IsHuntAt, RanHuntAt, RanHunts, Spot, left_of}
use Rattle.hack_hunt.specs.Searched.{CanGrow}
use Rattle.hack_hunt.specs.declared.hunt.Hunted.{Hunted}

grown-can : (n slot member : ℕ) (made : List Made) (plan : PlanView) → CanGrow n plan → CanGrow n (with_made slot member made plan)
grown-can n slot member [] plan can = can
grown-can n slot member (m ∷ made) plan can =
    grown-can n slot member made (with_run slot member m.run plan) (record {
      grows = can.grows;
      version = subst (λ k. 0 < k) (sym (length_changed with_one_place plan.versions (length plan.versions - 1))) can.version;
      members = can.members ∙ sym (length_changed (with_one_run m.run) plan.packages member);
    })

-- after a search runs can still be added
pub still_can : (n : ℕ) (cx : ContextRecord) (spot : Spot) (most : Option ℕ) (h : Hunted) (made : List Made) (old new : PlanView) → IsHuntAt cx spot most h made old new → CanGrow n old → CanGrow n new
still_can n cx spot most h made old new hunt can =
    subst (CanGrow n) (sym hunt.hunt.built.plan) (grown-can n hunt.aim.slot hunt.aim.member made old can)

abbrev all-made : List (List Made) → List Made
all-made made = flat_map (λ m. m) made

made-more : (made : List (List Made)) (m : List Made) → all-made (made ++ m ∷ []) ≡ all-made made ++ m
made-more [] m = append-nil m
made-more (x ∷ made) m = ap (λ l. x ++ l) (made-more made m) ∙ sym (append_assoc x (all-made made) m)

-- the plan has as many places more as runs were built
hunt-places : (cx : ContextRecord) (spot : Spot) (most : Option ℕ) (h : Hunted) (made : List Made) (old new : PlanView) → IsHuntAt cx spot most h made old new → length new.entries ≡ length old.entries + length made
hunt-places cx spot most h made old new hunt = ap (λ (p : PlanView). length p.entries) hunt.hunt.built.plan ∙ made_places hunt.aim.slot hunt.aim.member made old

hunts-places : (cx : ContextRecord) (most : Option ℕ) (spots : List Spot) (hunted : List Hunted) (made : List (List Made)) (old new : PlanView) → AreHunts cx most spots hunted made old new → length new.entries ≡ length old.entries + length (all-made made)
hunts-places cx most [] [] [] old new same = ap (λ (p : PlanView). length p.entries) same ∙ (let e : length old.entries ≡ length old.entries + 0 = omega arith in e)
hunts-places cx most [] [] (m ∷ made) old new h = absurd h
hunts-places cx most [] (x ∷ hunted) made old new h = absurd h
hunts-places cx most (s ∷ spots) [] made old new h = absurd h
hunts-places cx most (s ∷ spots) (x ∷ hunted) [] old new h = absurd h
hunts-places cx most (s ∷ spots) (x ∷ hunted) (m ∷ made) old new h =
    let one = hunt-places cx s (left_of most (length old.entries)) x m old h.0 h.1 in
    let rest = hunts-places cx most spots hunted made h.0 new h.2 in
    let joined = length-append m (all-made made) in
    omega (arith, one, rest, joined)

-- one search more
hunts-more : (cx : ContextRecord) (most : Option ℕ) (spots : List Spot) (spot : Spot) (hunted : List Hunted) (h : Hunted) (made : List (List Made)) (m : List Made) (old mid new : PlanView)
    → AreHunts cx most spots hunted made old mid → IsHuntAt cx spot (left_of most (length mid.entries)) h m mid new → AreHunts cx most (spots ++ spot ∷ []) (hunted ++ h ∷ []) (made ++ m ∷ []) old new
hunts-more cx most [] spot [] h [] m old mid new same one = (new, subst (λ (p : PlanView). IsHuntAt cx spot (left_of most (length p.entries)) h m p new) same one, refl)
hunts-more cx most [] spot [] h (x ∷ made) m old mid new before one = absurd before
hunts-more cx most [] spot (x ∷ hunted) h made m old mid new before one = absurd before
hunts-more cx most (s ∷ spots) spot [] h made m old mid new before one = absurd before
hunts-more cx most (s ∷ spots) spot (x ∷ hunted) h [] m old mid new before one = absurd before
hunts-more cx most (s ∷ spots) spot (x ∷ hunted) h (y ∷ made) m old mid new before one = (before.0, before.1, hunts-more cx most spots spot hunted h made m before.0 mid new before.2 one)

none-unbroken : AreUnbroken []
none-unbroken = All-nil (λ (m : Made). m.outcome ≢ Broken)

both-unbroken : (first second : List Made) → AreUnbroken first → AreUnbroken second → AreUnbroken (first ++ second)
both-unbroken first second = All-append (λ (m : Made). m.outcome ≢ Broken) first second

-- what explains a search explains it behind others of which no run is broken
explains-more : (why : CulpritsFault) (first second : List Made) (plan : PlanView) → AreUnbroken first → Explains why second plan → Explains why (first ++ second) plan
explains-more fault.Memory first second plan whole e = both-unbroken first second whole e
explains-more fault.TooManyRuns first second plan whole e = (both-unbroken first second whole e.0, e.1)
explains-more fault.Ended first second plan whole e = (first ++ e.0, e.1, ap (λ l. first ++ l) e.2 ∙ sym (append_assoc first e.0 (e.1 ∷ [])), both-unbroken first e.0 whole e.3, e.4)

module _ {R : Type 0} (ran : PlanView → List Handed → R → R → Type 0) (ended : R → Bool) (none : (plan : PlanView) (a : R) → ran plan [] a a)
    (more : (plan : PlanView) (steps more : List Handed) (a b c : R) → ran plan steps a b → ran plan more b c → ran plan (steps ++ more) a c)
    (law : (old new : PlanView) (steps : List Handed) (x y : R) → IsGrown old new → old.call.grows ≡ true → AreRunsOfPackages old.packages old.entries → AreRuns steps → ran old steps x y → ran new steps x y)
    (cx : ContextRecord) (most : Option ℕ) where
  -- no search
  pub ran_none : (plan : PlanView) (a : R) → RanHunts ran ended cx most [] (Ok []) plan plan a a
  ran_none plan a = record {
    built = [];
    hunts = record { front = []; left = []; split = refl; hunted = []; made = []; mid = plan; hunts = refl; begun = []; next = inl (refl, refl); all = refl; end = (refl, refl, none-unbroken) };
    handed = refl;
    whole = none plan a;
  }

  -- searches that memory kept from being begun
  pub ran_nothing : (spots : List Spot) (plan : PlanView) (a : R) → RanHunts ran ended cx most spots (Err fault.Memory) plan plan a a
  ran_nothing spots plan a = record {
    built = [];
    hunts = record { front = []; left = spots; split = refl; hunted = []; made = []; mid = plan; hunts = refl; begun = []; next = inl (refl, refl); all = refl; end = none-unbroken };
    handed = refl;
    whole = none plan a;
  }

  -- the searches of some spots, which came to their end
  abbrev Whole : List Spot → List Hunted → PlanView → PlanView → R → R → Type 0
  Whole spots hunted old mid a b = RanHunts ran ended cx most spots (Ok hunted) old mid a b

  whole-built : (spots : List Spot) (hunted : List Hunted) (old mid : PlanView) (a b : R) (r : Whole spots hunted old mid a b)
      → (made : List (List Made)) × AreHunts cx most spots hunted made old mid × (r.built ≡ all-made made)
  whole-built spots hunted old mid a b r =
      let h = r.hunts in
      let is-front : h.front ≡ spots = sym (append-nil h.front) ∙ ap (λ l. h.front ++ l) (sym h.end.0) ∙ sym h.split in
      elim h.next [
        | inl none ↦ (
          h.made,
          subst (λ (p : PlanView). AreHunts cx most spots hunted h.made old p) (sym none.1) (subst (λ (l : List Spot). AreHunts cx most l hunted h.made old h.mid) is-front (subst (λ (l : List Hunted). AreHunts cx most h.front l h.made old h.mid) h.end.1 h.hunts)),
          h.all ∙ ap (λ l. all-made h.made ++ l) none.0 ∙ append-nil (all-made h.made),
        )
        | inr some ↦ let e : some.0 ∷ some.1 ≡ [] = sym some.2 ∙ h.end.0 in absurd (cc)
      ]

  -- after the searches of some spots memory was refused
  pub ran_short : (spots left : List Spot) (hunted : List Hunted) (old mid : PlanView) (a b : R) → Whole spots hunted old mid a b → RanHunts ran ended cx most (spots ++ left) (Err fault.Memory) old mid a b
  ran_short spots left hunted old mid a b before =
      let w = whole-built spots hunted old mid a b before in
      record {
        built = before.built;
        hunts = record { front = spots; left = left; split = refl; hunted = hunted; made = w.0; mid = mid; hunts = w.1; begun = []; next = inl (refl, refl); all = w.2 ∙ sym (append-nil (all-made w.0)); end = before.hunts.end.2 };
        handed = before.handed;
        whole = before.whole;
      }

  -- what was built after other runs
  both-handed : (first second : List Made) (old mid new : PlanView) (a b c : R) → length mid.entries ≡ length old.entries + length first → IsGrown mid new → mid.call.grows ≡ true → AreRunsOfPackages mid.packages mid.entries
      → AreHanded ran ended mid (length old.entries) first a b → AreHanded ran ended new (length mid.entries) second b c → AreHanded ran ended new (length old.entries) (first ++ second) a c
  both-handed first second old mid new a b c places grown grows runs before one =
      handed_append ran ended new (length old.entries) first second a b c (handed_grown ran ended law mid new grown grows runs (length old.entries) first a b before)
      (subst (λ (k : ℕ). AreHanded ran ended new k second b c) places one)

  -- one search after others
  pub ran_more : (spots : List Spot) (spot : Spot) (hunted : List Hunted) (h : Hunted) (old mid new : PlanView) (a b c : R) → mid.call.grows ≡ true → AreRunsOfPackages mid.packages mid.entries
      → Whole spots hunted old mid a b → RanHuntAt ran ended cx spot (left_of most (length mid.entries)) h mid new b c → Whole (spots ++ spot ∷ []) (hunted ++ h ∷ []) old new a c
  ran_more spots spot hunted h old mid new a b c grows runs before one =
      let w = whole-built spots hunted old mid a b before in
      let grown : IsGrown mid new = subst (IsGrown mid) (sym one.hunt.hunt.built.plan) (made_grows one.hunt.aim.slot one.hunt.aim.member one.made mid) in
      let places : length mid.entries ≡ length old.entries + length before.built = hunts-places cx most spots hunted w.0 old mid w.1 ∙ ap (λ (l : List Made). length old.entries + length l) (sym w.2) in
      let handed = both-handed before.built one.made old mid new a b c places grown grows runs before.handed one.handed in
      record {
        built = before.built ++ one.made;
        hunts = record {
          front = spots ++ spot ∷ [];
          left = [];
          split = sym (append-nil (spots ++ spot ∷ []));
          hunted = hunted ++ h ∷ [];
          made = w.0 ++ one.made ∷ [];
          mid = new;
          hunts = hunts-more cx most spots spot hunted h w.0 one.made old mid new w.1 one.hunt;
          begun = [];
          next = inl (refl, refl);
          all = ap (λ l. l ++ one.made) w.2 ∙ sym (made-more w.0 one.made) ∙ sym (append-nil (all-made (w.0 ++ one.made ∷ [])));
          end = (refl, refl, both-unbroken before.built one.made before.hunts.end.2 one.hunt.hunt.unbroken);
        };
        handed = handed;
        whole = handed_ran ran ended none more new (length old.entries) (before.built ++ one.made) a c handed;
      }

  -- a search that was cut short, after others
  pub ran_cut : (spots : List Spot) (spot : Spot) (left : List Spot) (hunted : List Hunted) (why : CulpritsFault) (old mid new : PlanView) (a b c : R) → mid.call.grows ≡ true → AreRunsOfPackages mid.packages mid.entries
      → Whole spots hunted old mid a b → EndsAt ran ended cx spot (left_of most (length mid.entries)) why mid new b c → RanHunts ran ended cx most (spots ++ spot ∷ left) (Err why) old new a c
  ran_cut spots spot left hunted why old mid new a b c grows runs before (inl refused) =
      subst (λ (f : CulpritsFault). RanHunts ran ended cx most (spots ++ spot ∷ left) (Err f) old new a c) (sym refused.0)
      (subst (λ (p : PlanView). RanHunts ran ended cx most (spots ++ spot ∷ left) (Err fault.Memory) old p a c) (sym refused.1)
      (subst (λ (x : R). RanHunts ran ended cx most (spots ++ spot ∷ left) (Err fault.Memory) old mid a x) (sym refused.2) (ran_short spots (spot ∷ left) hunted old mid a b before)))
  ran_cut spots spot left hunted why old mid new a b c grows runs before (inr one) =
      let w = whole-built spots hunted old mid a b before in
      let cut = one.short in
      let grown : IsGrown mid new = subst (IsGrown mid) (sym cut.built.plan) (made_grows one.aim.slot one.aim.member cut.made mid) in
      let places : length mid.entries ≡ length old.entries + length before.built = hunts-places cx most spots hunted w.0 old mid w.1 ∙ ap (λ (l : List Made). length old.entries + length l) (sym w.2) in
      let handed = both-handed before.built cut.made old mid new a b c places grown grows runs before.handed cut.handed in
      record {
        built = before.built ++ cut.made;
        hunts = record {
          front = spots;
          left = spot ∷ left;
          split = refl;
          hunted = hunted;
          made = w.0;
          mid = mid;
          hunts = w.1;
          begun = cut.made;
          next = inr (spot, left, refl, record { aim = one.aim; of = one.of; asked = cut.asked; course = cut.course; built = cut.built });
          all = ap (λ l. l ++ cut.made) w.2;
          end = explains-more why before.built cut.made new before.hunts.end.2 cut.cause;
        };
        handed = handed;
        whole = handed_ran ran ended none more new (length old.entries) (before.built ++ cut.made) a c handed;
      }
