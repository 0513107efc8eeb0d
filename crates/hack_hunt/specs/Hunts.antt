-- The searches of a call: by which rules, in which order, and what they build and say.
use Rattle.std.specs.Prelude.{ℕ, ◌≡◌, ◌+◌, ◌-◌, ◌⊎◌, ◌&&◌, ◌||◌, ◌↔◌, Bool, true, false, not, IsTrue, List, [], ◌∷◌, ◌++◌, All, AllPairs, Contains, IfSome, Option, None, Some, Result, Ok, Err, length, option_map}
use Rattle.std.specs.List.{AllZip, flat_map, range_with_len}
use Rattle.std.specs.List.Sorted.{IsPermutation}
use Rattle.std.specs.Result.{result_map_both}
use Rattle.std.proofs.Common.{Vec}
use Rattle.hack_closures.specs.Closures.{AreAlone, AreChosen, AreEnabling, IsBuildFor}
use Rattle.hack_closures.specs.View.{alone_in, choice_in, has_all, search_of}
use Rattle.hack_closures.specs.declared.build.Build.{Build}
use Rattle.hack_closures.specs.declared.build.Build.TheVariants as build
use Rattle.hack_closures.specs.declared.closures.Closures.{Closures}
use Rattle.hack_conflicts.specs.Rules.{IsChoice, row_of}
use Rattle.hack_conflicts.specs.Runs.{AreBlamed, Finding, HasFailed, IsCourse, Run as Asked}
use Rattle.hack_conflicts.specs.Sets.{Has, HasInside, IsWithin}
use Rattle.hack_conflicts.specs.declared.tried.BuildOutcome.{BuildOutcome}
use Rattle.hack_conflicts.specs.declared.tried.BuildOutcome.TheVariants.{Failed, Passed}
use Rattle.hack_culprits.specs.Built.{AreHanded, AreMade, AreUnbroken, Explains, IsCutShort, IsHunt, Made, run_for, steps_from}
use Rattle.hack_culprits.specs.declared.aim.Aim.{Aim}
use Rattle.hack_culprits.specs.declared.fault.CulpritsFault.{CulpritsFault}
use Rattle.hack_culprits.specs.declared.fault.CulpritsFault.TheVariants as fault
use Rattle.hack_features.specs.Rules.{Choice, IsListed, IsRequired}
use Rattle.hack_sets.specs.Sets.{IsBefore, IsListing}
use Rattle.hack_load.specs.Contexts.{ContextRecord, features_at, package_at}
use Rattle.hack_load.specs.declared.features.Features.{Features}
use Rattle.hack_metadata.specs.Records.{PackageRecord}
use Rattle.hack_plan.specs.Runs.{is_plain, keeps_all}
use Rattle.hack_plan.specs.View.{PlanView}
use Rattle.hack_planner.specs.Calls.{rules_at}
use Rattle.hack_planner.specs.Candidates.{candidates}
use Rattle.hack_planner.specs.Kinds.{options_of, package_choice}
use Rattle.hack_planner.specs.PackageRules.{PackageRulesRecord}
use Rattle.hack_session.specs.declared.step.Handed.{Handed}
use Rattle.hack_hunt.specs.declared.hunt.Hunted.{Hunted}
use Rattle.hack_hunt.specs.declared.rules.Ends.{Ends}

-- the rules of a package, without a depth: a search asks for sets of any size
abbrev pub unbound_rules : ContextRecord → PackageRecord → Features → PackageRulesRecord
unbound_rules cx p f = record (rules_at cx p f) { depth = None }

-- whether a package has just a plain run, as its list of sets of any size has it: no set is listed, and
-- it has no features, or those to include are named
abbrev pub IsPlainAs : PackageRulesRecord → PackageRecord → Features → Bool → Type 0
IsPlainAs r p f plain =
    (sets : List (List ℕ)) → IsListing (length (candidates r f)) (IsListed (package_choice r p f)) sets → plain ≡ is_plain (options_of r f) sets

-- what is searched: the sets of a choice, or a plain run alone, which has the package's own defaults, so
-- that no at-least-one group counts
abbrev pub searched : Bool → Choice → Choice
searched true c = record c { candidates = []; at_least_one_of = [] }
searched false c = c

-- which runs that aren't those of a set may be built
abbrev pub ends_of : PackageRulesRecord → Features → Bool → Ends
ends_of r f plain = record {
  empty = plain || not r.exclude_no_default_features;
  all = not plain && keeps_all (options_of r f);
  plain = plain;
}

-- The sets that may be chosen are those that the listed sets of a choice turn on, the empty one and that
-- of all features where these runs may be built; and what is built for each is known.
pub record AreRulesOf (c : Choice) (ends : Ends) (aim : Aim) : Type 0 where
  pub choice : choice_in aim.closures.now ≡ c
  pub alone : AreAlone c (alone_in aim.closures.now)
  pub all : IsTrue (has_all aim.closures.now) ↔ (IsTrue ends.all × (c.exclusive ≡ []))
  pub enabling : AreEnabling c (alone_in aim.closures.now) (has_all aim.closures.now) (search_of aim.closures.now)
  pub listed : AreChosen c (alone_in aim.closures.now) (search_of aim.closures.now)
  pub empty : (s : List Bool) → ((x : ℕ) → ¬ Has s x) → IsChoice (search_of aim.closures.now) s ↔ (IsTrue ends.empty × IsRequired c [])
  pub with_all : IsTrue (has_all aim.closures.now) → IsChoice (search_of aim.closures.now) (row_of (search_of aim.closures.now) (length (alone_in aim.closures.now)))
  pub plain : aim.plain ≡ ends.plain

-- one build comes before another: that without features before the others, that with all features behind
-- them, and sets as a powerset lists them
abbrev pub Precedes : Build → Build → Type 0
Precedes build.NoFeatures (build.Set t) = Unit {0}
Precedes build.NoFeatures build.AllFeatures = Unit {0}
Precedes (build.Set s) (build.Set t) = IsBefore s.items t.items
Precedes (build.Set s) build.AllFeatures = Unit {0}
Precedes one other = ⊥

-- no build comes before an earlier one
abbrev pub AreInOrder : List Build → Type 0
AreInOrder builds = AllPairs (λ one later. ¬ Precedes later one) builds

-- what is built for each of the sets, in the order of a powerset
abbrev pub AreBuiltFor : Closures → List (List Bool) → List Build → Type 0
AreBuiltFor c sets builds =
    (each : List Build) × AllZip (IsBuildFor (choice_in c) (alone_in c) (has_all c) (search_of c)) sets each × IsPermutation each builds × AreInOrder builds

-- no set that failed was left without a conflict inside it; or this was built for such a set, which lies
-- inside each other one
abbrev pub IsUnfinishedAs : Closures → Finding → Option Build → Type 0
IsUnfinishedAs c f None = AreBlamed f.runs f.conflicts
IsUnfinishedAs c f (Some build) =
    (set : List Bool) × HasFailed f.runs set × (¬ HasInside f.conflicts set)
    × ((s : List Bool) → HasFailed f.runs s → HasInside f.conflicts s ⊎ IsWithin set s)
    × IsBuildFor (choice_in c) (alone_in c) (has_all c) (search_of c) set build

-- what is told of a finding: what was built for its conflicts and its passing sets
pub record IsToldAs (aim : Aim) (f : Finding) (h : Hunted) : Type 0 where
  pub slot : h.slot ≡ aim.slot
  pub member : h.member ≡ aim.member
  pub plain : h.plain ≡ aim.plain
  pub conflicts : AreBuiltFor aim.closures.now f.conflicts h.conflicts.items
  pub passing : AreBuiltFor aim.closures.now f.passing h.passing.items
  pub unfinished : IsUnfinishedAs aim.closures.now f h.unfinished
  pub complete : h.complete ≡ f.complete

-- the run of this build was built, and ended so
abbrev pub HasRun : Aim → List Made → BuildOutcome → Build → Type 0
HasRun aim made outcome b = Contains made (record { run = run_for aim.plain b; outcome = outcome })

-- what is told was run: the builds for conflicts failed, those for passing sets passed, and the one that
-- was left unfinished failed
pub record WereRun (aim : Aim) (made : List Made) (h : Hunted) : Type 0 where
  pub conflicts : All (HasRun aim made Failed) h.conflicts.items
  pub passing : All (HasRun aim made Passed) h.passing.items
  pub unfinished : IfSome h.unfinished (HasRun aim made Failed)

-- a package, a slot, and the package's index in the plan
pub record Spot : Type 0 where
  pub id : ℕ
  pub slot : ℕ
  pub member : ℕ

-- a package's rules are those of the call, and it is searched at its spot
pub record IsAimAt (cx : ContextRecord) (spot : Spot) (aim : Aim) : Type 0 where
  pub pkg : PackageRecord
  pub features : Features
  pub known : package_at cx spot.id ≡ Some pkg
  pub loaded : features_at cx spot.id ≡ Some features
  pub slot : aim.slot ≡ spot.slot
  pub member : aim.member ≡ spot.member
  pub plain : IsPlainAs (unbound_rules cx pkg features) pkg features aim.plain
  pub rules : AreRulesOf (searched aim.plain (package_choice (unbound_rules cx pkg features) pkg features))
      (ends_of (unbound_rules cx pkg features) features aim.plain) aim

-- the search of one package and slot: what it built, and what it says
pub record IsHuntAt (cx : ContextRecord) (spot : Spot) (most : Option ℕ) (h : Hunted) (made : List Made) (old new : PlanView) : Type 0 where
  pub aim : Aim
  pub of : IsAimAt cx spot aim
  pub finding : Finding
  pub hunt : IsHunt aim most finding made old new
  pub told : IsToldAs aim finding h
  pub ran : WereRun aim made h

-- its runs were handed out
pub record RanHuntAt {R : Type 0} (ran : PlanView → List Handed → R → R → Type 0) (ended : R → Bool) (cx : ContextRecord) (spot : Spot)
    (most : Option ℕ) (h : Hunted) (old new : PlanView) (a b : R) : Type 0 where
  pub made : List Made
  pub hunt : IsHuntAt cx spot most h made old new
  pub handed : AreHanded ran ended new (length old.entries) made a b
  pub whole : ran new (steps_from (length old.entries) made) a b

-- it was cut short
pub record IsCutShortAt {R : Type 0} (ran : PlanView → List Handed → R → R → Type 0) (ended : R → Bool) (cx : ContextRecord) (spot : Spot)
    (most : Option ℕ) (why : CulpritsFault) (old new : PlanView) (a b : R) : Type 0 where
  pub aim : Aim
  pub of : IsAimAt cx spot aim
  pub short : IsCutShort ran ended aim most why old new a b

-- a search ended before it was done: it was cut short, or memory was refused before it began
abbrev pub EndsAt : {R : Type 0} → (PlanView → List Handed → R → R → Type 0) → (R → Bool) → ContextRecord → Spot → Option ℕ → CulpritsFault → PlanView → PlanView → R → R → Type 0
EndsAt ran ended cx spot most why old new a b =
    ((why ≡ fault.Memory) × (new ≡ old) × (b ≡ a)) ⊎ IsCutShortAt ran ended cx spot most why old new a b

-- packages in a slot, of which the first has this index
abbrev pub placed : ℕ → ℕ → List ℕ → List Spot
placed slot member [] = []
placed slot member (id ∷ ids) = record { id = id; slot = slot; member = member } ∷ placed slot (member + 1) ids

-- each package in each slot, slot after slot
abbrev pub spots_of : List ℕ → ℕ → List Spot
spots_of ids slots = flat_map (λ slot. placed slot 0 ids) (range_with_len 0 slots)

-- how many of the runs that are allowed are left after so many
abbrev pub left_of : Option ℕ → ℕ → Option ℕ
left_of most built = option_map (λ m. m - built) most

-- the searches of these spots, one after the other: what each built, and what it says
abbrev pub AreHunts : ContextRecord → Option ℕ → List Spot → List Hunted → List (List Made) → PlanView → PlanView → Type 0
AreHunts cx most [] [] [] old new = new ≡ old
AreHunts cx most (spot ∷ spots) (h ∷ hunted) (m ∷ made) old new =
    (mid : PlanView) × IsHuntAt cx spot (left_of most (length old.entries)) h m old mid × AreHunts cx most spots hunted made mid new
AreHunts cx most spots hunted made old new = ⊥

-- a search of a spot that was cut short: what it built was asked for by such a search
pub record IsBegunAt (cx : ContextRecord) (spot : Spot) (most : Option ℕ) (made : List Made) (old new : PlanView) : Type 0 where
  pub aim : Aim
  pub of : IsAimAt cx spot aim
  pub asked : List Asked
  pub course : IsCourse (search_of aim.closures.now) most asked
  pub built : AreMade aim asked [] made made old new

-- the first of the spots that are left was searched, and that was cut short; or none was
abbrev pub IsBegun : ContextRecord → Option ℕ → List Spot → List Made → PlanView → PlanView → Type 0
IsBegun cx most left made old new =
    ((made ≡ []) × (new ≡ old))
    ⊎ ((spot : Spot) × (more : List Spot) × (left ≡ spot ∷ more) × IsBegunAt cx spot (left_of most (length old.entries)) made old new)

-- Searches that came to their end left no spot, and say what was found, and no run of theirs is broken; where
-- the call is at its end, the last run of all is broken, and no other; where the plan can't grow, it is full.
abbrev pub EndsSo : Result (List Hunted) CulpritsFault → List Spot → List Hunted → List Made → PlanView → Type 0
EndsSo (Ok found) left hunted built plan = (left ≡ []) × (hunted ≡ found) × AreUnbroken built
EndsSo (Err why) left hunted built plan = Explains why built plan

-- What was built for these spots: by the searches of some, which came to their end, and by that of the
-- next one, if it was begun.
pub record AreHunted (cx : ContextRecord) (most : Option ℕ) (spots : List Spot) (came : Result (List Hunted) CulpritsFault) (built : List Made) (old new : PlanView) : Type 0 where
  pub front : List Spot
  pub left : List Spot
  pub split : spots ≡ front ++ left
  pub hunted : List Hunted
  pub made : List (List Made)
  pub mid : PlanView
  pub hunts : AreHunts cx most front hunted made old mid
  pub begun : List Made
  pub next : IsBegun cx most left begun mid new
  pub all : built ≡ flat_map (λ m. m) made ++ begun
  pub end : EndsSo came left hunted built new

-- these spots were searched, and what was built was handed out, in order
pub record RanHunts {R : Type 0} (ran : PlanView → List Handed → R → R → Type 0) (ended : R → Bool) (cx : ContextRecord) (most : Option ℕ)
    (spots : List Spot) (came : Result (List Hunted) CulpritsFault) (old new : PlanView) (a b : R) : Type 0 where
  pub built : List Made
  pub hunts : AreHunted cx most spots came built old new
  pub handed : AreHanded ran ended new (length old.entries) built a b
  pub whole : ran new (steps_from (length old.entries) built) a b

-- what came of a call, with plain lists
abbrev pub came_of : {A : Type 0} → Result (Vec Hunted A) CulpritsFault → Result (List Hunted) CulpritsFault
came_of came = result_map_both (λ found. found.items) (λ why. why) came
