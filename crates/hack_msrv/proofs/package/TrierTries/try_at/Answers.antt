use Rattle.std.proofs.Common.{[], ◌∷◌, arith, refl}
use Rattle.hack_bisect.specs.declared.tries.TrialOutcome.TheVariants.{Broken}
use Rattle.hack_msrv.proofs.package.TrierTries.try_at.Goals as goal

pub returns-in_default : goal.returns-in_default
returns-in_default g c = (refl, refl, λ there. absurd (c.in_default.ensures (there 0 (record { place = c.args.place; outcome = Broken }) (omega arith))))

pub returns : goal.returns
returns g c =
    let v = c.in-Some.ensures in
    let did = c.try_version-came.ensures in (
      refl,
      refl,
      λ there. record {
        trials = record { version = v.0; handed = did.0; came = c.try_version-came.result } ∷ [];
        same = (record { version = v.1; outcome = c.outcome.ensures }, tt);
        did = (c.try_version-came.new.runner, did.1, record { version = c.in-Some.version.now; at = v.2; comes = did.2 }, refl);
        kept = c.last_failed-self.ensures;
      },
    )
