-- Whether two packages have different own versions.
use Rattle.std.proofs.Common.{◌≡◌, ◌≢◌, ◌↔◌, List, [], ◌∷◌, arith, refl, sym, ◌∙◌, Bool, true, false, IsTrue, Some, slice_get}
use Rattle.std.specs.List.{Contains}
use Rattle.hack_versions.specs.declared.group.PackageVersion.{PackageVersion}
use Rattle.hack_versions.specs.VersionUses.{own_of}
use Rattle.hack_plan.specs.Inputs.{HaveTwo}

-- some package's own version differs from this one's
abbrev pub Other : List PackageVersion → PackageVersion → Type 0
Other packages head = (member : PackageVersion) × Contains packages member × (own_of member ≢ own_of head)

two-differ : (packages : List PackageVersion) (head : PackageVersion) (r : Bool) → (IsTrue r ↔ Other packages head) → HaveTwo packages → IsTrue r
two-differ packages head true f w = refl
two-differ packages head false f w = absurd (both (λ n. absurd-test (f.1 (w.1, (w.0, w.2, w.3), n))) (λ n. absurd-test (f.1 (w.4.1, (w.4.0, w.4.2, w.4.3), n))))
  where
    absurd-test : IsTrue false → ⊥
    absurd-test t = cc

    both : ((own_of w.1 ≢ own_of head) → ⊥) → ((own_of w.4.1 ≢ own_of head) → ⊥) → ⊥
    both g h = g (λ a. h (λ b. w.4.4 (a ∙ sym b)))

pub have-two : (packages : List PackageVersion) (head : PackageVersion) (r : Bool) → Contains packages head → (IsTrue r ↔ Other packages head) → IsTrue r ↔ HaveTwo packages
have-two packages head r c f = (λ t. let w = f.0 t in (w.1.0, w.0, w.1.1, w.1.2, (c.0, head, c.1, c.2, w.2)), two-differ packages head r f)

pub at-first : (packages : List PackageVersion) (head : PackageVersion) → slice_get packages 0 ≡ Some head → Contains packages head
at-first [] head e = cc
at-first (p ∷ ps) head e = (0, omega arith, same p head e)
  where
    same : (a b : PackageVersion) → Some a ≡ Some b → a ≡ b
    same a b e = cc
