-- Paths that were refused, and all others, which hold what they held.
use Rattle.std.proofs.Common.{◌∙◌, List, [], ◌++◌, ℕ, refl}
use Rattle.std.proofs.lemmas.List.Elements.{Contains-append_left, Contains-append_right}
use Rattle.hack_files.specs.Files.{Contents, KeepsAll, KeepsAllBut}
use Rattle.hack_files.specs.Restore.{AreSafe, ComesBackBut, Kept}
use Rattle.hack_files.proofs.SafeLemmas.{safe_back}

-- nothing was done
pub but_none : (R : List (List ℕ) → Type 0) (tells : Type 0) (held : Contents) → R [] → KeepsAllBut R tells held held
but_none R tells held r = record { spoilt = []; refused = r; others = λ _ q _. refl }

-- nothing was changed
pub but_same : (R : List (List ℕ) → Type 0) (tells : Type 0) (old new : Contents) → (ps : List (List ℕ)) × R ps → (tells → KeepsAll old new) → KeepsAllBut R tells old new
but_same R tells old new some same = record { spoilt = some.0; refused = some.1; others = λ t q _. same t q }

-- one after the other
pub but_then : (R S T : List (List ℕ) → Type 0) (tells : Type 0) (old mid new : Contents) → ((ps qs : List (List ℕ)) → R ps → S qs → T (ps ++ qs))
    → KeepsAllBut R tells old mid → KeepsAllBut S tells mid new → KeepsAllBut T tells old new
but_then R S T tells old mid new more f g = record {
  spoilt = f.spoilt ++ g.spoilt;
  refused = more f.spoilt g.spoilt f.refused g.refused;
  others = λ t q fine.
      g.others t q (λ bad. fine (Contains-append_right f.spoilt g.spoilt q bad))
      ∙ f.others t q (λ bad. fine (Contains-append_left f.spoilt g.spoilt q bad));
}

-- what was kept before it was written is restored, but where that is refused
pub but_restored : (R S T : List (List ℕ) → Type 0) (tells : Type 0) (files : List Kept) (old mid new : Contents) (k : ℕ) → ((ps qs : List (List ℕ)) → R ps → S qs → T (ps ++ qs))
    → (ps : List (List ℕ)) × R ps → (tells → AreSafe files old mid) → ComesBackBut S tells files mid new k → KeepsAllBut T tells old new
but_restored R S T tells files old mid new k more some safe back = record {
  spoilt = some.0 ++ back.spoilt;
  refused = more some.0 back.spoilt some.1 back.refused;
  others = λ t q fine.
      let are = safe t in
      safe_back files back.spoilt old mid new are (back.back t are.distinct) q (λ bad. fine (Contains-append_right some.0 back.spoilt q bad));
}
