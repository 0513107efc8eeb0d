-- Lemmas on the sets of a sample.
use Rattle.std.proofs.Common.{◌≡◌, ℕ, List, length, get_or, sym, ◌∙◌, subst, Bool, ◌⊎◌, inl, inr, All, AllPairs, Contains, Vec, Result, Ok, Err, IfOk}
use Rattle.std.proofs.lemmas.List.Elements.{All-contains, Contains-get_or}
use Rattle.hack_samples.specs.Samples.{SomeShows, IsListedMask, IsMaskSample}
use Rattle.hack_samples.specs.Order.{IsMaskBefore}
use Rattle.hack_samples.specs.InternalDescendingPatterns.{AreKept}
use Rattle.hack_samples.specs.Internal.{IsChosen}
use Rattle.hack_samples.specs.declared.sets.Setting.{Setting}
use Rattle.hack_samples.specs.declared.fault.SampleFault.{SampleFault}
use Rattle.hack_samples.specs.declared.fault.SampleFault.TheVariants as fault

pub some-kept : (providers : List (List (List ℕ))) (pattern : List Setting) (sets later : List (List Bool)) → AreKept sets later → SomeShows providers pattern sets → SomeShows providers pattern later
some-kept providers pattern sets later kept h = record { by = h.by; chosen = kept h.by h.chosen; shows = h.shows }

-- one more listed set
pub sample-more : (may : List Bool → Bool) (n : ℕ) (required : List (List ℕ)) (sets more : List (List Bool)) (s : List Bool)
    → IsMaskSample may n required sets → IsListedMask may n required s → AllPairs IsMaskBefore more → ((t : List Bool) → Contains more t → Contains sets t ⊎ (t ≡ s)) → IsMaskSample may n required more
sample-more may n required sets more s old listed ordered only = record {
  listed = λ k d lt. elim (only (get_or more k d) (Contains-get_or more k d lt)) [
    | inl w ↦ All-contains (IsListedMask may n required) sets (get_or more k d) old.listed w
    | inr e ↦ subst (IsListedMask may n required) (sym e) listed
  ];
  ordered = ordered;
}

-- the sets of a sample are as long as each listed one
pub sizes : (may : List Bool → Bool) (n : ℕ) (required : List (List ℕ)) (sets : List (List Bool)) (s : List Bool) → IsMaskSample may n required sets → IsListedMask may n required s → All (λ t. length t ≡ length s) sets
sizes may n required sets s old listed = λ k d lt. (old.listed k d lt).size ∙ sym listed.size

-- some of the sets of a sample
pub sample-fewer : (may : List Bool → Bool) (n : ℕ) (required : List (List ℕ)) (sets fewer : List (List Bool)) → IsMaskSample may n required sets → AreKept fewer sets → AllPairs IsMaskBefore fewer → IsMaskSample may n required fewer
sample-fewer may n required sets fewer h only ordered = record {
  listed = λ k d lt. All-contains (IsListedMask may n required) sets (get_or fewer k d) h.listed (only (get_or fewer k d) (Contains-get_or fewer k d lt));
  ordered = ordered;
}

-- what holds of both samples holds of the one that is chosen
pub chosen-either : {X Z : Type 0} (P : Vec X Z → Type 0) (one : Vec X Z) (other chosen : Result (Vec X Z) SampleFault) → IsChosen one other chosen → P one → IfOk other P → IfOk chosen P
chosen-either P one (Ok other) (Ok chosen) h first second = elim h.either [ inl e ↦ subst P (sym e) first | inr e ↦ subst P (sym e) second ]
chosen-either P one (Ok other) (Err fault) h first second = absurd h
chosen-either P one (Err fault.TooManyQuestions) chosen h first second = subst (λ r. IfOk r P) (sym h) first
chosen-either P one (Err fault.Memory) chosen h first second = subst (λ r. IfOk r P) (sym h) tt
