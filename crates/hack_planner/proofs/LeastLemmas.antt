-- The runs of a package are at least as many as its sets, and one without features.
use Rattle.std.proofs.Common.{◌≡◌, ◌∙◌, ℕ, ◌+◌, ◌-◌, ◌≤◌, List, [], ◌∷◌, ◌++◌, length, take, drop, map, Bool, true, false, cond, not, None, refl, ap, sym, subst, arith, eqb-true, length-append}
use Rattle.std.specs.Prelude.{nat_lt, ◌&&◌, ◌||◌, ◌==◌, if◌then◌else◌}
use Rattle.std.proofs.lemmas.List.{take-append-drop, length-map}
use Rattle.std.specs.Bool.{MatchBool}
use Rattle.hack_load.specs.declared.features.Features.{Features}
use Rattle.hack_metadata.specs.Records.{PackageRecord}
use Rattle.hack_planner.specs.PackageRules.{PackageRulesRecord}
use Rattle.hack_plan.specs.declared.runs.RunOptions.{RunOptions}
use Rattle.std.specs.Option.{option_map_or}
use Rattle.hack_plan.specs.Runs.{Plain, AllFeatures, NoDefaultFeatures, Set, in_turn, is_plain, keeps_all, run_if, runs_from}
use Rattle.hack_plan.specs.RunsView.{with_last_first}
use Rattle.hack_planner.specs.Candidates.{candidates}
use Rattle.hack_planner.specs.Kinds.{ArePowersets, AreSets, AreSetRuns, package_choice, options_of}
use Rattle.hack_planner.specs.InternalLeastPlaces.{GivesAtLeast, HasRunsAtLeast}
use Rattle.hack_planner.proofs.KindLemmas.{first-true, or-true}

pub length-turned : (b : Bool) (sets : List (List ℕ)) → length (with_last_first b sets) ≡ length sets
length-turned true sets =
    let front = take (length sets - 1) sets in
    let rest = drop (length sets - 1) sets in
    omega (arith, length-append rest front, length-append front rest, ap length (take-append-drop (length sets - 1) sets))
length-turned false sets = refl

length-kept : (excluded : Bool) → length (run_if (not excluded) NoDefaultFeatures) ≡ cond excluded 0 1
length-kept true = refl
length-kept false = refl

many-by : (o : RunOptions) (sets : List (List ℕ)) (n least : ℕ) (plain : Bool) → is_plain o sets ≡ plain → n ≤ length sets → least ≤ n + cond o.exclude_no_default_features 0 1 → (n ≡ 0 → least ≡ 0) → least ≤ length (runs_from o sets)
many-by o sets n least true is enough most none =
    let empty : length sets ≡ 0 = eqb-true (length sets) 0 (first-true (length sets == 0) ((o.normal == 0) && (o.optional == 0) || o.included) is) in
    omega (arith, none (omega (arith, enough, empty)))
many-by o sets n least false is enough most none =
    let all = run_if (keeps_all o) AllFeatures in
    let bare = run_if (not o.exclude_no_default_features) NoDefaultFeatures in
    let turned = in_turn o sets in
    let made : length (runs_from o sets) ≡ length ((all ++ bare) ++ map Set turned) = ap (λ b. length (if b then Plain ∷ [] else (all ++ bare) ++ map Set turned)) is in
    omega (
      arith,
      made,
      length-append (all ++ bare) (map Set turned),
      length-append all bare,
      length-map turned Set,
      length-turned (o.powerset && not (keeps_all o) && nat_lt 1 (length sets) && option_map_or (nat_lt 1) o.depth true) sets,
      length-kept o.exclude_no_default_features,
      enough,
      most,
    )

-- under a powerset of all sets, a package whose listed sets give so many runs
pub runs-at_least : (w : PackageRulesRecord) (p : PackageRecord) (f : Features) (least : ℕ) → w.feature_powerset ≡ true → w.strength ≡ None → GivesAtLeast w (package_choice w p f) (length (candidates w f)) least → HasRunsAtLeast w p f least
runs-at_least w p f least powerset strength h =
    let o = options_of w f in
    let sets = h.lists.sets in
    let asked : (w.each_feature || w.feature_powerset) ≡ true = ap (λ b. w.each_feature || b) powerset ∙ or-true w.each_feature in
    let listed : ArePowersets w.strength (package_choice w p f) (length (candidates w f)) sets = subst (λ s. ArePowersets s (package_choice w p f) (length (candidates w f)) sets) (sym strength) h.lists.listing in
    let are : AreSets w.feature_powerset w p f sets = subst (λ b. AreSets b w p f sets) (sym powerset) listed in
    let made : AreSetRuns w p f (runs_from o sets) = record { sets = sets; are_sets = are; made = refl } in
    record {
      runs = runs_from o sets;
      are_runs = subst (λ b. MatchBool b (AreSetRuns w p f (runs_from o sets)) ((runs_from o sets) ≡ Plain ∷ [])) (sym asked) made;
      enough = many-by o sets h.sets least (is_plain o sets) refl h.lists.enough h.most h.none;
    }
