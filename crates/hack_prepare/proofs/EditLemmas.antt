-- The steps of all edits: the members, the root, and the lockfile.
use Rattle.std.proofs.Common.{inl, inr, List}
use Rattle.hack_files.specs.Files.{Contents}
use Rattle.hack_files.specs.declared.restore.Manager.{Manager}
use Rattle.hack_prepare.specs.Paths.{IsTouched}
use Rattle.hack_prepare.specs.Internal.{IsAlonePath, Only, OnlyIf, AnyStart, IsStep}
use Rattle.hack_prepare.specs.Prepared.{HoldTexts, MemberManifest, Wanted, edits_root}
use Rattle.hack_prepare.proofs.FaultLemmas.{alone-edited, root-edited}
use Rattle.hack_prepare.proofs.StepLemmas.{step_given, step_then}

-- a step of all edits
abbrev pub IsEditsStep : Type 0 → Wanted → List MemberManifest → Manager → Manager → Contents → Contents → Type 0
IsEditsStep tells w ms = IsStep tells (λ s. HoldTexts s ms) (IsTouched w ms)

pub members-step : (tells : Type 0) (w : Wanted) (ms : List MemberManifest) (a b : Manager) (x y : Contents) → IsStep tells (λ s. HoldTexts s ms) (IsAlonePath w ms) a b x y → IsEditsStep tells w ms a b x y
members-step tells w ms a b x y h = step_given tells (λ s. HoldTexts s ms) (λ s. HoldTexts s ms) (IsAlonePath w ms) (IsTouched w ms) a b x y (λ s p. p) (λ q k. inl (alone-edited w ms q k)) h

pub root-step : (tells : Type 0) (w : Wanted) (ms : List MemberManifest) (a b c : Manager) (x y z : Contents) → IsStep tells (λ s. HoldTexts s ms) (IsAlonePath w ms) a b x y
    → IsStep tells (λ s. HoldTexts s ms) (OnlyIf (edits_root w ms) w.root) b c y z → IsEditsStep tells w ms a c x z
root-step tells w ms a b c x y z f g =
    step_then tells (λ s. HoldTexts s ms) (IsTouched w ms) a b c x y z (members-step tells w ms a b x y f)
    (step_given tells (λ s. HoldTexts s ms) (λ s. HoldTexts s ms) (OnlyIf (edits_root w ms) w.root) (IsTouched w ms) b c y z (λ s p. p) (λ q k. inl (root-edited w ms q k)) g)

pub lock-step : (tells : Type 0) (w : Wanted) (ms : List MemberManifest) (a b c d : Manager) (x y z u : Contents) → IsStep tells (λ s. HoldTexts s ms) (IsAlonePath w ms) a b x y
    → IsStep tells (λ s. HoldTexts s ms) (OnlyIf (edits_root w ms) w.root) b c y z → IsStep tells AnyStart (Only w.lockfile) c d z u → IsEditsStep tells w ms a d x u
lock-step tells w ms a b c d x y z u f g h =
    step_then tells (λ s. HoldTexts s ms) (IsTouched w ms) a c d x z u (root-step tells w ms a b c x y z f g)
    (step_given tells AnyStart (λ s. HoldTexts s ms) (Only w.lockfile) (IsTouched w ms) c d z u (λ s p. tt) (λ q k. inr k) h)
