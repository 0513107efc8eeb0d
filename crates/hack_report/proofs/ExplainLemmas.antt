-- The notices on suspects, of one strength after another.
use Rattle.std.proofs.Common.{◌≡◌, ◌∙◌, ◌+◌, ◌<◌, ◌++◌, ◌∷◌, [], ℕ, List, Option, ap, append-nil, get_or, length, map, subst, sym, take}
use Rattle.std.specs.List.{AllZip, flat_map}
use Rattle.std.proofs.lemmas.List.{get_or-map, length-map}
use Rattle.std.proofs.lemmas.List.Concat.{flat_map-append}
use Rattle.hack_base.specs.Notes.{Note}
use Rattle.hack_load.specs.Contexts.{ContextRecord}
use Rattle.hack_planner.proofs.ChosenLemmas.{zip-next}
use Rattle.hack_session.specs.Histories.{Course}
use Rattle.hack_report.specs.Explained.{AreInTurn, AreSuspectNotes}

-- one more of what a list is mapped to
pub zip_mapped : {A B C : Type 0} (R : B → C → Type 0) (f : A → B) (xs : List A) (i : ℕ) (d : A) → i < length xs → (ys : List C) (y : C) (all : List C) → R (f (get_or xs i d)) y → all ≡ ys ++ y ∷ [] → AllZip R (take i (map f xs)) ys → AllZip R (take (i + 1) (map f xs)) all
zip_mapped {A} {B} {C} R f xs i d lt ys y all one is before =
    subst (λ (l : List C). AllZip R (take (i + 1) (map f xs)) l) (sym is)
    (zip-next R (map f xs) i (f d) (subst (λ (n : ℕ). i < n) (sym (length-map xs f)) lt) ys y (subst (λ (b : B). R b y) (sym (get_or-map f xs i d (f d) lt)) one) before)

-- the notices of one strength more
pub turns_more : (cx : ContextRecord) (t : Course) (strengths : List (Option ℕ)) (each : List ℕ) (k : ℕ) (d one : ℕ) (notes more all : List Note) → k < length each → one ≡ get_or each k d → AreSuspectNotes cx t strengths one more → all ≡ notes ++ more
    → AreInTurn cx t strengths (take k each) notes → AreInTurn cx t strengths (take (k + 1) each) all
turns_more cx t strengths each k d one notes more all lt is are adds before = record {
  lists = before.lists ++ more ∷ [];
  such = zip-next (AreSuspectNotes cx t strengths) each k d lt before.lists more (subst (λ (s : ℕ). AreSuspectNotes cx t strengths s more) is are) before.such;
  all = adds ∙ ap (λ (l : List Note). l ++ more) before.all ∙ sym (flat_map-append (λ list. list) before.lists (more ∷ []) ∙ ap (λ (l : List Note). flat_map (λ list. list) before.lists ++ l) (append-nil more));
}
