-- The lines of a run that is cleaned.
use Rattle.std.proofs.Common.{◌≡◌, ℕ, filter, List, [], ◌∷◌, ◌++◌, append_assoc, refl, sym, ◌∙◌, ap, subst, Bool, true, false, Result, Option, Some, None, option_map, if◌then◌else◌}
use Rattle.std.specs.Prelude.{IfSome, OnOk, codes}
use Rattle.std.specs.Io.KnownBytes.{Appends}
use Rattle.std.proofs.lemmas.Result.{on_ok_weaker}
use Rattle.hack_plan.specs.declared.places.PlanEntry.{PlanEntry}
use Rattle.hack_process.specs.CommandTexts.{Command, listed_of}
use Rattle.hack_plan.specs.View.{PlanView}
use Rattle.hack_plan.specs.Commands.{clean_command, command_of_entry, chosen_package_at}
use Rattle.hack_session.specs.declared.lines.LineFault.{LineFault}
use Rattle.hack_session.specs.declared.step.Handed.{Handed}
use Rattle.hack_session.specs.ListLines.{ListsStep, ListsAll, Page, is_sent, is_sent_step, line_of, run_lines_at}

cleaned_lines : (plan : PlanView) (o : Option PlanEntry) (text : List ℕ) (clean : Command) → option_map (λ q. listed_of plan.call.dir (command_of_entry plan q)) o ≡ Some text → IfSome o (λ x. clean ≡ clean_command plan.call (chosen_package_at plan.packages x.package)) → true ≡ plan.call.clean_per_run
    → line_of plan.call.dir clean ++ (text ++ codes "\n") ≡ run_lines_at plan o
cleaned_lines plan None text clean e f b = absurd (cc)
cleaned_lines plan (Some q) text clean e f b =
    let own : text ≡ listed_of plan.call.dir (command_of_entry plan q) = cc in
    ap (λ (c : Command). line_of plan.call.dir c ++ (text ++ codes "\n")) f
    ∙ ap (λ (t : List ℕ). line_of plan.call.dir (clean_command plan.call (chosen_package_at plan.packages q.package)) ++ (t ++ codes "\n")) own
    ∙ ap (λ (f : Bool). (if f then line_of plan.call.dir (clean_command plan.call (chosen_package_at plan.packages q.package)) else []) ++ line_of plan.call.dir (command_of_entry plan q)) b

pub two_lines : {T : Type 0} (r : Result T LineFault) (plan : PlanView) (o : Option PlanEntry) (text : List ℕ) (clean : Command) (dir : List ℕ) (a b : Option (List ℕ)) → option_map (λ q. listed_of plan.call.dir (command_of_entry plan q)) o ≡ Some text
    → IfSome o (λ x. clean ≡ clean_command plan.call (chosen_package_at plan.packages x.package)) → true ≡ plan.call.clean_per_run → dir ≡ plan.call.dir
    → OnOk r (Appends a b (line_of dir clean ++ (text ++ codes "\n"))) → OnOk r (Appends a b (run_lines_at plan o))
two_lines r plan o text clean dir a b e f g h written =
    on_ok_weaker r (λ s. subst (Appends a b) (cleaned_lines plan o text clean e f g) (subst (λ (d : List ℕ). Appends a b (line_of d clean ++ (text ++ codes "\n"))) h s)) written

-- two lines, as they are shown in one text
pub shown_lines : (a b : Option (List ℕ)) (dir : List ℕ) (clean : Command) (first last : List ℕ) → first ≡ listed_of dir clean
    → Appends a b ((first ++ (codes "\n" ++ last)) ++ codes "\n") → Appends a b (line_of dir clean ++ (last ++ codes "\n"))
shown_lines a b dir clean first last e written =
    subst (Appends a b) (ap (λ (x : List ℕ). (x ++ (codes "\n" ++ last)) ++ codes "\n") e
    ∙ ap (λ (x : List ℕ). x ++ codes "\n") (sym (append_assoc (listed_of dir clean) (codes "\n") last)) ∙ append_assoc (line_of dir clean) last (codes "\n")) written

-- a step that is listed leaves the runner as it is
pub record OneListed (whole S : Type 0) (ran : PlanView → List Handed → S → S → Type 0) (plan : PlanView) (h : Handed) (s : S) (old new : Page) : Type 0 where
  pub sent : ran plan (filter is_sent (h ∷ [])) s s
  pub lists : ListsAll whole plan (h ∷ []) old new

pub one_listed : (whole : Type 0) {S : Type 0} (ran : PlanView → List Handed → S → S → Type 0) (plan : PlanView) (h : Handed) (s : S) (old new : Page) → false ≡ is_sent_step h.step → ran plan [] s s → ListsStep whole false plan h old new → OneListed whole S ran plan h s old new
one_listed whole ran plan h s old new e none one =
    let is : is_sent_step h.step ≡ false = sym e in
    record { sent = rw is none; lists = (new, subst (λ (b : Bool). ListsStep whole b plan h old new) e one, refl) }

-- a step that is performed leaves the page as it is
pub record OneSent (whole S : Type 0) (ran : PlanView → List Handed → S → S → Type 0) (plan : PlanView) (h : Handed) (s t : S) (page : Page) : Type 0 where
  pub sent : ran plan (filter is_sent (h ∷ [])) s t
  pub lists : ListsAll whole plan (h ∷ []) page page

pub one_sent : (whole : Type 0) {S : Type 0} (ran : PlanView → List Handed → S → S → Type 0) (plan : PlanView) (h : Handed) (s t : S) (page : Page) → true ≡ is_sent_step h.step → ran plan (h ∷ []) s t → OneSent whole S ran plan h s t page
one_sent whole ran plan h s t page e one =
    let is : is_sent_step h.step ≡ true = sym e in
    record { sent = rw is one; lists = (page, subst (λ (b : Bool). ListsStep whole b plan h page page) e refl, refl) }
