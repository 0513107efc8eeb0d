-- What a builder keeps while it builds.
use Rattle.std.specs.Prelude.{◌≡◌}
use Rattle.hack_culprits.specs.declared.builder.Builder.{Builder}

-- only what was built, the plan and the runner are others
pub record IsSameBuilder {R : Type 0} (a b : Builder R) : Type 0 where
  pub runner : a.runner.ghost_name ≡ b.runner.ghost_name
  pub «plan» : a.plan.ghost_name ≡ b.plan.ghost_name
  pub aim : b.aim ≡ a.aim
  pub fault : b.fault ≡ a.fault
