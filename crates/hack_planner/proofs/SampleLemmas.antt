-- Why there is no sample of a package, and what holds of both clauses of a result.
use Rattle.std.proofs.Common.{◌≡◌, ◌∙◌, ℕ, ◌⊎◌, inl, inr, refl, sym, subst, List, Option, None, Some, Bool, true, Result, Ok, Err, IfOk, IfErr, IsSome, is_some}
use Rattle.std.specs.List.{AllZip}
use Rattle.hack_planner.specs.Kinds.{package_choice}
use Rattle.hack_load.specs.declared.features.Features.{Features}
use Rattle.hack_metadata.specs.Records.{PackageRecord}
use Rattle.hack_planner.specs.PackageRules.{PackageRulesRecord}
use Rattle.hack_features.specs.Rules.{Choice}
use Rattle.hack_plan.specs.Runs.{PackageRun}
use Rattle.hack_planner.specs.declared.fault.RunsFault.{RunsFault}
use Rattle.hack_planner.specs.declared.fault.RunsFault.TheVariants as fault
use Rattle.hack_features.specs.declared.rules.Rules.{Rules}
use Rattle.hack_features.specs.View.{choice_of, questions_asked}
use Rattle.hack_planner.specs.Kinds as kinds
use Rattle.hack_planner.specs.KindsView.{IsRunsFault}
use Rattle.hack_planner.specs.Internal.{IsGivenUp, IsRefused}

is-given : (o : Option ℕ) → IsSome o → (strength : ℕ) × (o ≡ Some strength)
is-given None some = absurd (cc)
is-given (Some strength) some = (strength, refl)

-- an error of rules of the package, which were asked as many questions as they may, is one of the package
pub tired : (w : PackageRulesRecord) (p : PackageRecord) (f : Features) (asked : Rules) (e : RunsFault) → choice_of asked ≡ kinds.package_choice w p f → (e ≡ fault.Memory) ⊎ IsRefused w (questions_asked asked) e → (e ≡ fault.Memory) ⊎ IsRunsFault w p f e
tired w p f asked fault.Memory made_for h = inl refl
tired w p f asked (fault.TooManyQuestions tally) made_for (inl e) = absurd (cc)
tired w p f asked (fault.TooManyQuestions tally) made_for (inr up) =
    let given = is-given w.strength up.1 in
    inr (record { strength = given.0; powerset = up.0; given = given.1; asked = asked; made_for = made_for; told = up.2; spent = up.2 ∙ up.3 })

-- a sample that is given up is refused where it was asked for
pub refused : (w : PackageRulesRecord) (asked : ℕ) (e : RunsFault) → w.feature_powerset ≡ true → IsSome w.strength → IsGivenUp asked e → (e ≡ fault.Memory) ⊎ IsRefused w asked e
refused w asked fault.Memory powerset given up = inl refl
refused w asked (fault.TooManyQuestions tally) powerset given up = inr (powerset, given, up.0, up.1)

-- sets of a powerset with this strength
pub sets-by : (powerset : Bool) (strength given : Option ℕ) (c : Choice) (n : ℕ) (sets : List (List ℕ)) → powerset ≡ true → strength ≡ given → kinds.ArePowersets given c n sets → kinds.AreSetsBy powerset strength c n sets
sets-by powerset strength given c n sets is same are = subst (λ b. kinds.AreSetsBy b strength c n sets) (sym is) (subst (λ o. kinds.ArePowersets o c n sets) (sym same) are)

-- if two things hold of what is returned, so does what follows from both
pub ok-both : {X E : Type 0} (r : Result X E) (P Q R : X → Type 0) → ((x : X) → P x → Q x → R x) → IfOk r P → IfOk r Q → IfOk r R
ok-both (Ok x) P Q R f p q = f x p q
ok-both (Err e) P Q R f p q = tt

-- if something holds of an error, so does what follows from it
pub err-weaker : {X E : Type 0} (r : Result X E) (P Q : E → Type 0) → ((e : E) → P e → Q e) → IfErr r P → IfErr r Q
err-weaker (Ok x) P Q f p = tt
err-weaker (Err e) P Q f p = f e p

-- with a strength the rows of runs are those that are promised
pub with-strength : (strength : Option ℕ) (c : Choice) (runs : List PackageRun) (rows : List (List Bool)) → is_some strength ≡ true → AllZip (kinds.IsRowOf c) runs rows → kinds.AreRunSettings strength c runs rows
with-strength None c runs rows some are = absurd (cc)
with-strength (Some strength) c runs rows some are = are
