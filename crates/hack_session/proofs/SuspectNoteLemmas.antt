-- Lemmas on the notices that explain failed runs.
use Rattle.std.proofs.Common.{◌≡◌, ℕ, ◌+◌, List, [], ◌∷◌, ◌++◌, map, refl, sym, ◌∙◌, ap, append_assoc, String, Global, string_bytes, codes, false, ◌||◌, Vec}
use Rattle.std.specs.List.{join_by, list_any}
use Rattle.std.proofs.lemmas.List.Folds.{flat_map-map}
use Rattle.hack_base.specs.Notes.{Note}
use Rattle.hack_plan.specs.View.{PlanView}
use Rattle.hack_session.specs.Suspects.{ExplainedView, candidate_count}
use Rattle.hack_samples.specs.Sets.{rows_of}
use Rattle.std.specs.Prelude.{Err, Ok, OnOk, Option, Result, Some, nat_eq, nat_lt, slice_get}
use Rattle.hack_partition.specs.declared.partition.Partition.{Partition}
use Rattle.std.specs.Fmt.{decimal}
use Rattle.hack_samples.specs.declared.sets.Setting.{Setting}
use Rattle.hack_session.specs.SuspectNotes.{has_setting, headed_lines, missed_lines, notes_of, suspect_notes_on, who_text}

pub join-texts : (sep : List ℕ) (xs : List (String Global)) → join_by string_bytes sep xs ≡ join_by (λ text. text) sep (map string_bytes xs)
join-texts sep [] = refl
join-texts sep (x ∷ xs) = ap (λ l. string_bytes x ++ l) (sym (flat_map-map (λ text. sep ++ text) string_bytes xs))

-- notes that are added in two steps
pub adds-then : {X : Type 0} (old mid new xs ys : List X) → mid ≡ old ++ xs → new ≡ mid ++ ys → new ≡ old ++ (xs ++ ys)
adds-then old mid new xs ys p q = q ∙ ap (λ l. l ++ ys) p ∙ append_assoc old xs ys

-- the notes on found suspects, and then on the runs that show none
pub notes-some : {E : Type 0} (plan : PlanView) (piece : Option Partition) (e : ExplainedView) (found : List (List Setting)) (n : ℕ) (old mid new : List Note) (r : Result (Unit {0}) E) → e.suspects ≡ Some found → n ≡ candidate_count (slice_get plan.packages e.part.package)
    → mid ≡ old ++ headed_lines plan piece e found → OnOk r (new ≡ mid ++ missed_lines n e) → OnOk r (new ≡ old ++ suspect_notes_on plan piece e)
notes-some plan piece e found n old mid new (Err x) is count first then = tt
notes-some plan piece e found n old mid new (Ok v) is count first then =
    adds-then old mid new (headed_lines plan piece e found) (missed_lines n e) first then
    ∙ ap (λ k. old ++ (headed_lines plan piece e found ++ missed_lines k e)) count ∙ ap (λ s. old ++ notes_of plan piece e s) (sym is)

pub any-setting : {Z : Type 0} (found : List (Vec Setting Z)) → list_any (λ v. has_setting v.items) found ≡ list_any has_setting (rows_of found)
any-setting [] = refl
any-setting (v ∷ found) = ap (λ b. has_setting v.items || b) (any-setting found)

-- where no failed run shows no suspect, and there are several
pub who-all : (showing failed : ℕ) → nat_lt showing failed ≡ false → nat_eq failed 1 ≡ false → who_text showing failed ≡ codes "all " ++ (decimal failed ++ codes " failed runs have")
who-all showing failed p q = rw p (rw q refl)
