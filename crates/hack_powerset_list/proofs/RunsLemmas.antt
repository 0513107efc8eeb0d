-- The runs of a command list, from the listed sets.
use Rattle.std.proofs.Common.{◌≡◌, ℕ, zero, suc, List, [], ◌∷◌, ◌++◌, length, map, refl, sym, ◌∙◌, ap, arith, Bool, true, false, length-append, append-nil, nat_lt, if◌then◌else◌}
use Rattle.std.specs.Prelude.{not, ◌&&◌, ◌||◌, ◌==◌}
use Rattle.std.proofs.lemmas.Bool.{lt-ltb}
use Rattle.std.proofs.lemmas.Grind.{flat_map-append}
use Rattle.hack_base.specs.Names.{Name}
use Rattle.hack_features.specs.declared.feature.Feature.{Feature}
use Rattle.hack_sets.proofs.Permitted.{nonzero}
use Rattle.hack_plan.specs.declared.runs.RunOptions.{RunOptions}
use Rattle.std.specs.Option.{option_map_or}
use Rattle.hack_plan.specs.Runs.{Plain, AllFeatures, NoDefaultFeatures, Set, run_if, keeps_all, is_plain, in_turn, last_first, runs_from}
use Rattle.hack_plan.specs.RunsView.{with_last_first}
use Rattle.hack_powerset_list.specs.declared.wishes.Wishes.{Wishes}
use Rattle.hack_powerset_list.specs.ListRuns.{options_from}
use Rattle.hack_powerset_list.specs.Lines.{run_line, run_lines}
use Rattle.hack_powerset_list.specs.Walks.{set_lines}

and-false : (b : Bool) → (b && false) ≡ false
and-false true = refl
and-false false = refl

alone : (b : Bool) → (b && true || false) ≡ b
alone true = refl
alone false = refl

is-empty : (n : ℕ) → not (nat_lt 0 n) ≡ (n == 0)
is-empty zero = refl
is-empty (suc n) = ap not (lt-ltb 0 (suc n) (omega arith)) ∙ sym (nonzero n)

map-lines : (names : List Name) (sets : List (List ℕ)) → run_lines names (map Set sets) ≡ set_lines names sets
map-lines names [] = refl
map-lines names (s ∷ sets) = ap (λ l. run_line names (Set s) ++ l) (map-lines names sets)

turned-none : (b : Bool) → with_last_first {X = List ℕ} b [] ≡ []
turned-none true = refl
turned-none false = refl

module _ (w : Wishes) (fs : List Feature) where
  no-all : keeps_all (options_from w fs) ≡ false
  no-all = and-false (not (nat_lt 0 (length w.mutually_exclusive.items)))

  -- the runs if no set is listed
  pub runs-none : runs_from (options_from w fs) [] ≡ (if length fs == 0 then Plain ∷ [] else run_if (length w.at_least_one_of.items == 0) NoDefaultFeatures)
  runs-none =
      let o : RunOptions = options_from w fs in
      ap (λ b. if b then Plain ∷ [] else run_if (keeps_all o) AllFeatures ++ run_if (not o.exclude_no_default_features) NoDefaultFeatures ++ map Set (in_turn o [])) (alone (length fs == 0))
      ∙ ap (λ b. if length fs == 0 then Plain ∷ [] else run_if b AllFeatures ++ run_if (not o.exclude_no_default_features) NoDefaultFeatures ++ map Set (in_turn o [])) no-all
      ∙ ap (λ b. if length fs == 0 then Plain ∷ [] else run_if b NoDefaultFeatures ++ map Set (in_turn o [])) (is-empty (length w.at_least_one_of.items))
      ∙ ap (λ (l : List (List ℕ)). if length fs == 0 then Plain ∷ [] else run_if (length w.at_least_one_of.items == 0) NoDefaultFeatures ++ map Set l) (turned-none (o.powerset && not (keeps_all o) && nat_lt 1 0 && option_map_or (nat_lt 1) o.depth true))
      ∙ ap (λ l. if length fs == 0 then Plain ∷ [] else l) (append-nil (run_if (length w.at_least_one_of.items == 0) NoDefaultFeatures))

  module _ (sets front : List (List ℕ)) (last : List ℕ) (is : sets ≡ front ++ last ∷ []) where
    some : (n : ℕ) × (length sets ≡ suc n)
    some = (length front, let len : length sets ≡ length (front ++ last ∷ []) = ap length is in omega (arith, len, length-append front (last ∷ [])))

    not-plain : is_plain (options_from w fs) sets ≡ false
    not-plain = ap (λ n. (n == 0) && ((length fs == 0) && (0 == 0) || false)) some.1 ∙ ap (λ b. b && ((length fs == 0) && (0 == 0) || false)) (nonzero some.0)

    single : (b : Bool) (xs : List (List ℕ)) (x : List ℕ) → xs ≡ x ∷ [] → with_last_first b xs ≡ xs
    single true xs x e = ap last_first e ∙ sym e
    single false xs x e = refl

    turns : (b : Bool) (more : List (List ℕ)) → front ≡ more → with_last_first (nat_lt 1 (length sets) && b) sets ≡ with_last_first b sets
    turns b [] e = single (nat_lt 1 (length sets) && b) sets last (is ∙ ap (λ l. l ++ last ∷ []) e) ∙ sym (single b sets last (is ∙ ap (λ l. l ++ last ∷ []) e))
    turns b (x ∷ more) e =
        let len : length sets ≡ length (front ++ last ∷ []) = ap length is in
        let long : length front ≡ suc (length more) = ap length e in
        ap (λ c. with_last_first (c && b) sets) (lt-ltb 1 (length sets) (omega (arith, len, length-append front (last ∷ []), long)))

    in-turn : in_turn (options_from w fs) sets ≡ with_last_first (option_map_or (nat_lt 1) w.depth true) sets
    in-turn = ap (λ b. with_last_first (not b && nat_lt 1 (length sets) && option_map_or (nat_lt 1) w.depth true) sets) no-all ∙ turns (option_map_or (nat_lt 1) w.depth true) front refl

    -- the runs if some sets are listed
    pub runs-some : (names : List Name) → run_lines names (runs_from (options_from w fs) sets)
        ≡ run_lines names (run_if (length w.at_least_one_of.items == 0) NoDefaultFeatures) ++ set_lines names (with_last_first (option_map_or (nat_lt 1) w.depth true) sets)
    runs-some names =
        let o : RunOptions = options_from w fs in
        ap (λ b. run_lines names (if b then Plain ∷ [] else run_if (keeps_all o) AllFeatures ++ run_if (not o.exclude_no_default_features) NoDefaultFeatures ++ map Set (in_turn o sets))) not-plain
        ∙ ap (λ b. run_lines names (run_if b AllFeatures ++ run_if (not o.exclude_no_default_features) NoDefaultFeatures ++ map Set (in_turn o sets))) no-all
        ∙ ap (λ b. run_lines names (run_if b NoDefaultFeatures ++ map Set (in_turn o sets))) (is-empty (length w.at_least_one_of.items))
        ∙ ap (λ l. run_lines names (run_if (length w.at_least_one_of.items == 0) NoDefaultFeatures ++ map Set l)) in-turn
        ∙ flat_map-append (run_line names) (run_if (length w.at_least_one_of.items == 0) NoDefaultFeatures) (map Set (with_last_first (option_map_or (nat_lt 1) w.depth true) sets))
        ∙ ap (λ l. run_lines names (run_if (length w.at_least_one_of.items == 0) NoDefaultFeatures) ++ l) (map-lines names (with_last_first (option_map_or (nat_lt 1) w.depth true) sets))
