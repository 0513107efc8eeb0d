-- The sets of a command list.
use Rattle.std.proofs.Common.{Option, inr, if◌then◌else◌, ◌≡◌, ◌∙◌, ℕ, List, [], ◌∷◌, true, false, length, map, nat_lt, refl, sym, ap, subst}
use Rattle.std.specs.declared.io.ErrorKind.{ErrorKind}
use Rattle.std.proofs.lemmas.List.{length-map}
use Rattle.hack_base.specs.Names.{Name}
use Rattle.hack_features.specs.declared.feature.Feature.{Feature}
use Rattle.hack_features.specs.Feature.{name_of, group_of, groups_of}
use Rattle.hack_routes.specs.FeatureMap.{FeatureMap}
use Rattle.hack_sets.specs.Sets.{IsListing}
use Rattle.hack_features.specs.Rules.{Choice, IsListed, unlifted_groups}
use Rattle.hack_plan.specs.declared.runs.RunOptions.{RunOptions}
use Rattle.hack_powerset_list.specs.declared.wishes.Wishes.{Wishes}
use Rattle.hack_plan.specs.Runs.{PackageRun, runs_from}
use Rattle.hack_powerset_list.specs.declared.fault.ListFault.TheVariants.{Write, Memory}
use Rattle.hack_powerset_list.specs.Faults.{is_memory_kind, told_as}
use Rattle.hack_powerset_list.specs.Words.{Asks}
use Rattle.hack_powerset_list.specs.Input.{IsMapText, keys_of}
use Rattle.hack_powerset_list.specs.Lines.{run_lines}
use Rattle.hack_powerset_list.specs.ListRuns.{options_from}
use Rattle.hack_powerset_list.specs.Internal.{chosen_from, AreListRuns}
use Rattle.hack_powerset_list.specs.CommandList.{choice_for, options_for, IsCommandList, IsInput, IsListFor, WritesFront, RefusesList}

-- if no group is lifted, all groups stay
pub unlifted-none : (groups : List (List Name)) → unlifted_groups groups [] ≡ groups
unlifted-none [] = refl
unlifted-none (group ∷ groups) = ap (λ l. group ∷ l) (unlifted-none groups)

-- the lines of the runs of a map's features are its command list
pub command_list : (w : Wishes) (fs : List Feature) (m : FeatureMap) (runs : List PackageRun)
    → AreListRuns w fs m runs → map name_of fs ≡ keys_of m → groups_of fs ≡ map (λ name. name ∷ []) (keys_of m)
    → IsCommandList m w.depth (groups_of w.at_least_one_of.items) (groups_of w.mutually_exclusive.items) (run_lines (map name_of fs) runs)
command_list w fs m runs l names groups =
    let at = groups_of w.at_least_one_of.items in
    let ex = groups_of w.mutually_exclusive.items in
    let size : length fs ≡ length m = sym (length-map fs name_of) ∙ ap length names ∙ length-map m (λ e. e.0) in
    let same : chosen_from w fs m ≡ choice_for m w.depth at ex =
    ap (λ (c : List (List Name)). record { map = m; candidates = c; depth = w.depth; at_least_one_of = at; exclusive = ex }) groups in
    let options_of : ℕ → ℕ → ℕ → RunOptions = λ n exclusive required. record {
      powerset = true;
      depth = w.depth;
      normal = n;
      optional = 0;
      all_optional_deps = false;
      included = false;
      exclude_all_features = nat_lt 0 exclusive;
      exclude_no_default_features = nat_lt 0 required;
    } in
    let options : options_from w fs ≡ options_for m w.depth at ex =
    ap (λ n. options_of n (length w.mutually_exclusive.items) (length w.at_least_one_of.items)) size
    ∙ ap (λ n. options_of (length m) n (length w.at_least_one_of.items)) (sym (length-map w.mutually_exclusive.items group_of))
    ∙ ap (options_of (length m) (length ex)) (sym (length-map w.at_least_one_of.items group_of)) in
    record {
      sets = l.sets;
      listing = subst (λ (c : Choice). IsListing (length m) (IsListed c) l.sets) same
          (subst (λ n. IsListing n (IsListed (chosen_from w fs m)) l.sets) size l.listing);
      lines = ap (λ (n : List Name). run_lines n runs) names ∙ ap (run_lines (keys_of m)) (l.made ∙ ap (λ (o : RunOptions). runs_from o l.sets) options);
    }

-- the lines of the runs are the list that the arguments ask for
pub list_for : (words : List Name) (left : Option (List ℕ)) (w : Wishes) (bytes : List ℕ) (fs : List Feature) (m : FeatureMap) (runs : List PackageRun)
    → Asks words w.depth (groups_of w.at_least_one_of.items) (groups_of w.mutually_exclusive.items) → IsInput left bytes → IsMapText bytes m
    → AreListRuns w fs m runs → map name_of fs ≡ keys_of m → groups_of fs ≡ map (λ name. name ∷ []) (keys_of m) → IsListFor words left (run_lines (map name_of fs) runs)
list_for words left w bytes fs m runs asks input read l names groups = record {
  depth = w.depth;
  at_least_one_of = groups_of w.at_least_one_of.items;
  exclusive = groups_of w.mutually_exclusive.items;
  asks = asks;
  bytes = bytes;
  input = input;
  m = m;
  read = read;
  list = command_list w fs m runs l names groups;
}

-- a front is written, whatever the kind of the error
pub refused-writing : (words : List Name) (left old new : Option (List ℕ)) (kind : ErrorKind) → WritesFront words left old new → RefusesList words left old new (told_as kind Write)
refused-writing words left old new kind front = elim (is_memory_kind kind) as (λ b. RefusesList words left old new (if b then Memory else Write)) [ true ↦ inr front | false ↦ front ]
