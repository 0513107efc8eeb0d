-- Whether stable's version is asked for where the plan of a call needs it.
use Rattle.std.specs.Prelude.{◌≢◌, IfSome, IsSome, IsSomeAnd}
use Rattle.hack_planner.specs.declared.stable.Stable.{Stable}
use Rattle.hack_planner.specs.declared.stable.Stable.TheVariants.{Unasked}
use Rattle.hack_versions.specs.RangeSteps.{NeedsStable}
use Rattle.hack_words.specs.declared.cli.args.Args.{Args}

-- there is a subcommand, and an end of the range is stable's version
abbrev pub NeedsAnswer : Args → Type 0
NeedsAnswer args = IsSome args.subcommand × IsSomeAnd args.version_range NeedsStable

-- where a range of versions needs it, stable's version was asked for
abbrev pub IsAnswered : Args → Stable → Type 0
IsAnswered args stable = IsSome args.subcommand → IfSome args.version_range (λ range. NeedsStable range → stable ≢ Unasked)
