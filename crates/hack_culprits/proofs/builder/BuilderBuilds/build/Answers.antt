use Rattle.std.proofs.Common.{[], Err, Ok, Result, Some, refl, subst}
use Rattle.std.proofs.lemmas.List.Elements.{All-head}
use Rattle.hack_closures.specs.View.{search_of}
use Rattle.hack_conflicts.specs.Rules.{IsChoice}
use Rattle.hack_conflicts.specs.Runs.{Run as Asked}
use Rattle.hack_conflicts.specs.declared.tried.BuildOutcome.{BuildOutcome}
use Rattle.hack_conflicts.specs.declared.tried.BuildOutcome.TheVariants.{Broken}
use Rattle.hack_culprits.specs.Internal.{BuildsOne, made_in}
use Rattle.hack_culprits.specs.declared.fault.CulpritsFault.{CulpritsFault}
use Rattle.hack_culprits.proofs.BuildLemmas.{built_alone}
use Rattle.hack_culprits.proofs.builder.BuilderBuilds.build.Goals as goal

pub returns-in-Ok : goal.returns-in-Ok
returns-in-Ok g c =
    let self = c.args.self.now in
    let new = c.try_set.new.self in
    let same = c.try_set.ensures.same in
    let before = made_in self.aim.plain self.built.now.items in
    let after = made_in self.aim.plain new.built.now.items in (
      same.runner,
      same.plan,
      same.aim,
      λ ready choices. built_alone g.R.Runner.ran g.R.Judge.ended self.aim c.args.set.now (Ok c.in-Ok.outcome) before after self.fault new.fault self.plan.now new.plan.now self.runner.now new.runner.now
          (subst (λ (came : Result BuildOutcome CulpritsFault). BuildsOne g.R.Runner.ran g.R.Judge.ended self.aim c.args.set.now came before after self.plan.now new.plan.now self.runner.now new.runner.now) c.in-Ok.is
          (c.try_set.ensures.built ready (All-head (λ (one : Asked). IsChoice (search_of self.aim.closures.now) one.set) (record { set = c.args.set.now; outcome = c.in-Ok.outcome }) [] choices))) same.fault,
    )

pub returns-in-Err : goal.returns-in-Err
returns-in-Err g c =
    let self = c.args.self.now in
    let new = c.try_set.new.self in
    let same = c.try_set.ensures.same in
    let before = made_in self.aim.plain self.built.now.items in
    let after = made_in self.aim.plain new.built.now.items in (
      same.runner,
      same.plan,
      same.aim,
      λ ready choices. built_alone g.R.Runner.ran g.R.Judge.ended self.aim c.args.set.now (Err c.in-Err.fault) before after self.fault (Some c.in-Err.fault) self.plan.now new.plan.now self.runner.now new.runner.now
          (subst (λ (came : Result BuildOutcome CulpritsFault). BuildsOne g.R.Runner.ran g.R.Judge.ended self.aim c.args.set.now came before after self.plan.now new.plan.now self.runner.now new.runner.now) c.in-Err.is
          (c.try_set.ensures.built ready (All-head (λ (one : Asked). IsChoice (search_of self.aim.closures.now) one.set) (record { set = c.args.set.now; outcome = Broken }) [] choices))) refl,
    )
