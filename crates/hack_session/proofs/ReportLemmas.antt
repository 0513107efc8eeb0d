-- Failures as plain data.
use Rattle.std.proofs.Common.{◌≡◌, ℕ, List, [], ◌∷◌, refl, ap, sym, ◌∙◌, map, filter, string_bytes, bytes_eq, Bool, true, false, cond, ◌||◌, Option, Some, None, unwrap_or, option_map, Bor}
use Rattle.std.specs.List.{list_any}
use Rattle.hack_plan.specs.declared.places.PlanEntry.{PlanEntry}
use Rattle.hack_process.specs.CommandTexts.{text_of}
use Rattle.hack_plan.specs.View.{PlanView}
use Rattle.hack_plan.specs.Commands.{command_of_entry, name_in, chosen_package_at}
use Rattle.hack_session.specs.declared.report.Failure.{Failure}
use Rattle.hack_session.specs.Reports.{FailedRun, is_of, run_at, told_text}
use Rattle.hack_session.specs.Internal.{failure_view}

pub texts_as : (q : List ℕ) (fs : List Failure) → map told_text (filter (is_of q) (map failure_view fs)) ≡ map (λ f. string_bytes f.text) (filter (λ f. bytes_eq q (string_bytes f.name)) fs)
texts_as q [] = refl
texts_as q (f ∷ fs) = go (bytes_eq q (string_bytes f.name)) (texts_as q fs)
  where
    go : (b : Bool) → map told_text (filter (is_of q) (map failure_view fs)) ≡ map (λ f. string_bytes f.text) (filter (λ f. bytes_eq q (string_bytes f.name)) fs)
        → map told_text (cond b (failure_view f ∷ filter (is_of q) (map failure_view fs)) (filter (is_of q) (map failure_view fs))) ≡ map (λ f. string_bytes f.text) (cond b (f ∷ filter (λ f. bytes_eq q (string_bytes f.name)) fs) (filter (λ f. bytes_eq q (string_bytes f.name)) fs))
    go true e = ap (λ (l : List (List ℕ)). string_bytes f.text ∷ l) e
    go false e = e

pub names_as : (q : List ℕ) (fs : List Failure) → list_any (is_of q) (map failure_view fs) ≡ list_any (λ f. bytes_eq q (string_bytes f.name)) fs
names_as q [] = refl
names_as q (f ∷ fs) = ap (λ (b : Bool). bytes_eq q (string_bytes f.name) || b) (names_as q fs)

pub name_or : (o : Option (Bor (List ℕ))) (d : Bor (List ℕ)) → d.now ≡ [] → (unwrap_or o d).now ≡ unwrap_or (option_map (λ n. n.now) o) []
name_or None d e = e
name_or (Some n) d e = refl

abbrev told : List ℕ → List ℕ → FailedRun
told n t = record { name = n; text = t }

pub told_at : (plan : PlanView) (o : Option PlanEntry) (q : PlanEntry) (name text : List ℕ) → o ≡ Some q → name ≡ unwrap_or (name_in (chosen_package_at plan.packages q.package)) [] → text ≡ text_of true plan.call.dir (command_of_entry plan q)
    → Some (record { name = name; text = text }) ≡ run_at plan o
told_at plan o q name text e f g =
    ap (λ (n : List ℕ). Some (told n text)) f ∙ ap (λ (t : List ℕ). Some (told (unwrap_or (name_in (chosen_package_at plan.packages q.package)) []) t)) g ∙ sym (ap (run_at plan) e)
