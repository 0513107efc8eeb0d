-- The sets of a package and its runs.
use Rattle.std.proofs.Common.{◌≡◌, ◌∙◌, ℕ, ◌+◌, ◌-◌, ◌<◌, List, [], ◌∷◌, ◌++◌, length, get_or, take, drop, map, Contains, Bool, true, false, not, None, Global, inl, inr, refl, ap, sym, subst, arith, eqb-true}
use Rattle.std.specs.Prelude.{Vec, nat_lt, ◌&&◌, ◌||◌, ◌==◌, if◌then◌else◌}
use Rattle.std.specs.Borrow.{Bor}
use Rattle.std.proofs.lemmas.List.{map-append, take-append-drop, length-map, get_or-map}
use Rattle.std.proofs.lemmas.List.Elements.{Contains-append_left, Contains-append_right, Contains-append_cases}
use Rattle.std.specs.Bool.{MatchBool}
use Rattle.hack_load.specs.declared.features.Features.{Features}
use Rattle.hack_metadata.specs.Records.{PackageRecord}
use Rattle.hack_planner.specs.PackageRules.{PackageRulesRecord}
use Rattle.hack_features.specs.declared.feature.Feature.{Feature}
use Rattle.hack_features.specs.Feature.{group_of, groups_of, candidates_of}
use Rattle.hack_features.specs.Rules.{Choice, AreCovers}
use Rattle.hack_sets.specs.Sets.{singles}
use Rattle.hack_base.proofs.Steps.{seen-next}
use Rattle.hack_plan.specs.declared.runs.RunOptions.{RunOptions}
use Rattle.std.specs.Option.{option_map_or}
use Rattle.hack_plan.specs.Runs.{PackageRun, Plain, AllFeatures, NoDefaultFeatures, Set, is_plain, keeps_all, run_if, last_first, in_turn, runs_from}
use Rattle.hack_planner.specs.declared.kind.Kind.{Kind}
use Rattle.hack_planner.specs.declared.kind.Kind.TheVariants.{Normal, Each, Powerset}
use Rattle.hack_planner.specs.Candidates.{candidates}
use Rattle.hack_planner.specs.Kinds.{AreSetsBy, AreRunSettings, AreSetRuns, AreRuns, HasPlainRun, HasSetRuns, AreCovering, package_choice, options_of}
use Rattle.hack_planner.specs.KindsView.{IsKind, runs_of}
use Rattle.hack_planner.specs.InternalKinds.{AreMade, IsMadeOf, kind_from}
use Rattle.hack_plan.specs.declared.runs.Runs.{Runs}
use Rattle.hack_plan.specs.RunsView.{runs_in}

-- references to features, after one more
pub candidates-next : (all new : List (Bor Feature)) (features : List Feature) (k : ℕ) (f : Bor Feature) → new ≡ all ++ f ∷ [] → candidates_of all ≡ take k (groups_of features)
    → k < length features → f.now ≡ get_or features k f.now → candidates_of new ≡ take (k + 1) (groups_of features)
candidates-next all new features k f pushed before lt is =
    ap candidates_of pushed ∙ map-append (λ (g : Bor Feature). group_of g.now) all (f ∷ []) ∙ ap (λ names. names ++ group_of f.now ∷ []) before ∙ sym (seen-next group_of features k f.now lt is)

in-last_first : {X : Type 0} (xs : List X) (t : X) → Contains xs t → Contains (last_first xs) t
in-last_first xs t c =
    elim (Contains-append_cases (take (length xs - 1) xs) (drop (length xs - 1) xs) t (subst (λ ys. Contains ys t) (sym (take-append-drop (length xs - 1) xs)) c)) [
      | inl w ↦ Contains-append_right (drop (length xs - 1) xs) (take (length xs - 1) xs) t w
      | inr w ↦ Contains-append_left (drop (length xs - 1) xs) (take (length xs - 1) xs) t w
    ]

pick : {X : Type 0} (b : Bool) (xs ys : List X) (t : X) → Contains xs t → Contains ys t → Contains (if b then xs else ys) t
pick true xs ys t c d = c
pick false xs ys t c d = d

in-map : (xs : List (List ℕ)) (t : List ℕ) → Contains xs t → Contains (map Set xs) (Set t)
in-map xs t c = (c.0, omega (arith, c.1, length-map xs Set), get_or-map Set xs c.0 t (Set t) c.1 ∙ ap Set c.2)

-- each set has its run
runs-has : (o : RunOptions) (sets : List (List ℕ)) (t : List ℕ) → is_plain o sets ≡ false → Contains sets t → Contains (runs_from o sets) (Set t)
runs-has o sets t some c =
    let turned : Contains (in_turn o sets) t = pick (o.powerset && not (keeps_all o) && nat_lt 1 (length sets) && option_map_or (nat_lt 1) o.depth true) (last_first sets) sets t (in-last_first sets t c) c in
    subst (λ b. Contains (if b then Plain ∷ [] else (run_if (keeps_all o) AllFeatures ++ run_if (not o.exclude_no_default_features) NoDefaultFeatures) ++ map Set (in_turn o sets)) (Set t)) (sym some)
    (Contains-append_right (run_if (keeps_all o) AllFeatures ++ run_if (not o.exclude_no_default_features) NoDefaultFeatures) (map Set (in_turn o sets)) (Set t) (in-map (in_turn o sets) t turned))

pub first-true : (a b : Bool) → (a && b) ≡ true → a ≡ true
first-true true b h = refl
first-true false b h = h

nothing-in : (n : ℕ) (sets : List (List ℕ)) (t : List ℕ) → (length sets == 0) ≡ true → Contains sets t → ⊥
nothing-in n [] t e c = absurd (omega (arith, c.1))
nothing-in n (s ∷ ss) t e c = absurd (omega (arith, eqb-true (length (s ∷ ss)) 0 e))

-- where the runs are one plain run, there is no set
plain-none : (o : RunOptions) (sets : List (List ℕ)) (t : List ℕ) → is_plain o sets ≡ true → Contains sets t → ⊥
plain-none o sets t plain c = nothing-in 0 sets t (first-true (length sets == 0) ((o.normal == 0) && (o.optional == 0) || o.included) plain) c

-- if sets cover, their runs cover too
pub covering-runs : (w : PackageRulesRecord) (p : PackageRecord) (f : Features) (sets : List (List ℕ)) (runs : List PackageRun) → is_plain (options_of w f) sets ≡ false → AreCovers (package_choice w p f) (length (candidates w f)) sets
    → runs ≡ runs_from (options_of w f) sets → AreCovering w p f runs
covering-runs w p f sets runs some covers made s sel wanted =
    let t = covers s sel wanted in
    (t.0, t.1, subst (λ l. Contains l (Set t.0)) (sym made) (runs-has (options_of w f) sets t.0 some t.2))

-- so does a single plain run, since then no set has to be covered
pub covering-plain : (w : PackageRulesRecord) (p : PackageRecord) (f : Features) (sets : List (List ℕ)) (runs : List PackageRun) → is_plain (options_of w f) sets ≡ true → AreCovers (package_choice w p f) (length (candidates w f)) sets → AreCovering w p f runs
covering-plain w p f sets runs plain covers s sel wanted =
    let t = covers s sel wanted in
    absurd (plain-none (options_of w f) sets t.0 plain t.2)

pub or-true : (a : Bool) → (a || true) ≡ true
or-true true = refl
or-true false = refl

plain-by : (w : PackageRulesRecord) (p : PackageRecord) (f : Features) (b : Bool) → (w.each_feature || w.feature_powerset) ≡ b → HasPlainRun w p f → MatchBool b (AreSetRuns w p f (Plain ∷ [])) ((Plain ∷ []) ≡ Plain ∷ [])
plain-by w p f false is h = refl
plain-by w p f true is h = record {
  sets = h.sets;
  are_sets = h.are_sets is;
  made = ap (λ (b : Bool). if b then Plain ∷ [] else (run_if (keeps_all (options_of w f)) AllFeatures ++ run_if (not w.exclude_no_default_features) NoDefaultFeatures) ++ map Set (in_turn (options_of w f) h.sets)) (sym (h.plain is));
}

set-runs : (w : PackageRulesRecord) (p : PackageRecord) (f : Features) (runs : List PackageRun) → HasSetRuns w p f runs → AreSetRuns w p f runs
set-runs w p f runs h = record { sets = h.sets; are_sets = h.are_sets; made = h.made }

-- the runs of a kind are the package's
pub runs-of_kind : (w : PackageRulesRecord) (p : PackageRecord) (f : Features) (kind : Kind) → IsKind w p f kind → AreRuns w p f (runs_of kind)
runs-of_kind w p f Normal h = plain-by w p f (w.each_feature || w.feature_powerset) refl h
runs-of_kind w p f (Each list runs) h = subst (λ b. MatchBool b (AreSetRuns w p f (runs_of (Each list runs))) ((runs_of (Each list runs)) ≡ Plain ∷ [])) (sym (ap (λ b. b || w.feature_powerset) h.0)) (set-runs w p f (runs_of (Each list runs)) h.3)
runs-of_kind w p f (Powerset list runs) h = subst (λ b. MatchBool b (AreSetRuns w p f (runs_of (Powerset list runs))) ((runs_of (Powerset list runs)) ≡ Plain ∷ [])) (sym (ap (λ b. w.each_feature || b) h.0 ∙ or-true w.each_feature)) (set-runs w p f (runs_of (Powerset list runs)) h.2)

-- what comes of each candidate alone
pub alone-made : (w : PackageRulesRecord) (f : Features) (c : Choice) (n : ℕ) (sets : List (List ℕ)) (runs : List PackageRun) (plain : Bool) (rows : List (List Bool)) → w.feature_powerset ≡ false → w.strength ≡ None → sets ≡ singles n → IsMadeOf w f sets runs plain → rows ≡ []
    → AreMade w f c n runs plain rows
alone-made w f c n sets runs plain rows each all is made none = record {
  sets = sets;
  are_sets = subst (λ b. AreSetsBy b w.strength c n sets) (sym each) is;
  covers = λ powerset _. let e : true ≡ false = sym powerset ∙ each in absurd (cc);
  made = made;
  settings = subst (λ o. AreRunSettings o c runs rows) (sym all) none;
}

-- what comes of rules comes of what they were made for
pub made-for : (w : PackageRulesRecord) (f : Features) (c d : Choice) (m n : ℕ) (runs : List PackageRun) (plain : Bool) (rows : List (List Bool)) → c ≡ d → m ≡ n → AreMade w f c m runs plain rows → AreMade w f d n runs plain rows
made-for w f c d m n runs plain rows same size h = subst (λ q. AreMade w f q n runs plain rows) same (subst (λ k. AreMade w f c k runs plain rows) size h)

or-first : (a b : Bool) → (a || b) ≡ true → b ≡ false → a ≡ true
or-first true b some none = refl
or-first false b some none = absurd (cc)

kind-by : (w : PackageRulesRecord) (p : PackageRecord) (f : Features) (powerset plain : Bool) (list : Vec Feature Global) (runs : Runs) (rows : List (List Bool)) → w.feature_powerset ≡ powerset → groups_of list.items ≡ candidates w f
    → AreMade w f (package_choice w p f) (length (candidates w f)) (runs_in runs) plain rows → IsKind w p f (kind_from powerset plain list runs)
kind-by w p f powerset true list runs rows is names h = record { sets = h.sets; are_sets = λ _. h.are_sets; plain = h.made.1 }
kind-by w p f true false list runs rows is names h = (is, names, record { sets = h.sets; are_sets = h.are_sets; made = h.made.2; some = h.made.1 })
kind-by w p f false false list runs rows is names h = (or-first w.each_feature w.feature_powerset h.made.0 is, is, names, record { sets = h.sets; are_sets = h.are_sets; made = h.made.2; some = h.made.1 })

-- what comes of a package's candidates gives its kind
pub made-kind : (w : PackageRulesRecord) (p : PackageRecord) (f : Features) (plain : Bool) (list : Vec Feature Global) (runs : Runs) (rows : List (List Bool)) → groups_of list.items ≡ candidates w f
    → AreMade w f (package_choice w p f) (length (candidates w f)) (runs_in runs) plain rows → IsKind w p f (kind_from w.feature_powerset plain list runs)
made-kind w p f plain list runs rows names h = kind-by w p f w.feature_powerset plain list runs rows refl names h

-- whose runs are those
pub made-runs : (w : PackageRulesRecord) (f : Features) (sets : List (List ℕ)) (powerset plain : Bool) (list : Vec Feature Global) (runs : Runs) → IsMadeOf w f sets (runs_in runs) plain → runs_of (kind_from powerset plain list runs) ≡ runs_in runs
made-runs w f sets powerset true list runs h = sym h.0
made-runs w f sets true false list runs h = refl
made-runs w f sets false false list runs h = refl

-- and which cover its sets under a powerset of all of them
pub made-covering : (w : PackageRulesRecord) (p : PackageRecord) (f : Features) (plain : Bool) (runs : List PackageRun) (rows : List (List Bool)) → AreMade w f (package_choice w p f) (length (candidates w f)) runs plain rows → w.feature_powerset ≡ true → w.strength ≡ None
    → AreCovering w p f runs
made-covering w p f true runs rows h powerset all = covering-plain w p f h.sets runs (h.made.1 (ap (λ b. w.each_feature || b) powerset ∙ or-true w.each_feature)) (h.covers powerset all)
made-covering w p f false runs rows h powerset all = covering-runs w p f h.sets runs h.made.1 (h.covers powerset all) h.made.2
