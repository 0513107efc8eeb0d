use Rattle.std.proofs.Common.{take, Contains}
use Rattle.hack_base.specs.Names.{Name, names_of}
use Rattle.hack_pkgids.specs.PackageSpecs.{Matches}
use Rattle.hack_metadata.specs.SpecViews.{identity_of}
use Rattle.hack_planner.proofs.member.is_matched.Given as goal

-- no specification so far matches
abbrev pub invariant-loop-spec : goal.invariant-loop-spec
invariant-loop-spec l = (spec : Name) → Contains (take l.spec-index (names_of l.specs)) spec → ¬ Matches (identity_of l.member.pkg.now) spec
