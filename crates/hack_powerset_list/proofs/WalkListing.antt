-- The sets that a walk lists are the listed ones.
use Rattle.std.proofs.Common.{◌≡◌, true, [], ◌∷◌, List, length, refl, subst}
use Rattle.hack_features.specs.declared.rules.Rules.{Rules}
use Rattle.hack_sets.specs.Questions.{is_whole, IsWholeSet}
use Rattle.hack_features.specs.declared.feature.Feature.{Feature}
use Rattle.hack_routes.specs.FeatureMap.{FeatureMap}
use Rattle.hack_features.specs.Rules.{Choice, IsListed}
use Rattle.hack_sets.specs.Sets.{IsListing}
use Rattle.hack_features.specs.View.{may_of, size_of, whole_of, choice_of}
use Rattle.hack_sets.specs.Walk.{below}
use Rattle.hack_features.specs.ClosureLaws.{may_of-empty, may_of-remove}
use Rattle.hack_sets.proofs.Permitted.{Passes, listing_filter, listing_same, whole_iff}
use Rattle.hack_features.proofs.RuleLemmas.{tables_of, listing_of}
use Rattle.hack_sets.proofs.Walked.{walk_listing}
use Rattle.hack_plan.specs.Runs.{runs_from}
use Rattle.hack_powerset_list.specs.declared.wishes.Wishes.{Wishes}
use Rattle.hack_powerset_list.specs.ListRuns.{options_from}
use Rattle.hack_powerset_list.specs.Internal.{AreListRuns, chosen_from}
use Rattle.hack_powerset_list.specs.Walks.{listed_in}

pub walk_sets : (r : Rules) → IsListing (size_of r) (λ s. (may_of r s ≡ true) × (is_whole (whole_of r) s ≡ true)) (listed_in r)
walk_sets r =
    listing_filter (size_of r) (Passes (may_of r)) (is_whole (whole_of r)) ([] ∷ below (may_of r) (size_of r) [])
    (walk_listing (may_of r) (may_of-remove r) (may_of-empty r) (size_of r))

pub walk_listed : (r : Rules) → IsListing (size_of r) (IsListed (choice_of r)) (listed_in r)
walk_listed r =
    listing_of r (tables_of r) (listed_in r)
    (listing_same (size_of r) (λ s. (may_of r s ≡ true) × (is_whole (whole_of r) s ≡ true)) (IsWholeSet (may_of r) (whole_of r)) (listed_in r) (whole_iff (may_of r) (whole_of r)) (walk_sets r))

-- the runs of the sets that a walk lists
pub walk_runs : (w : Wishes) (fs : List Feature) (m : FeatureMap) (r : Rules) → choice_of r ≡ chosen_from w fs m → size_of r ≡ length fs → AreListRuns w fs m (runs_from (options_from w fs) (listed_in r))
walk_runs w fs m r choice size = record {
  sets = listed_in r;
  listing = subst (λ (q : Choice). IsListing (length fs) (IsListed q) (listed_in r)) choice (subst (λ n. IsListing n (IsListed (choice_of r)) (listed_in r)) size (walk_listed r));
  made = refl;
}
