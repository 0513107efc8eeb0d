use Rattle.std.proofs.Common.{ap, subst, sym}
use Rattle.hack_conflicts.specs.Runs.{IsFaultOf, finding_of}
use Rattle.hack_culprits.specs.Built.{Explains}
use Rattle.hack_culprits.specs.Internal.{IsReady, made_in}
use Rattle.hack_culprits.specs.declared.fault.CulpritsFault.{CulpritsFault}
use Rattle.hack_culprits.proofs.BuildLemmas.{cut_hunt, ran_hunt}
use Rattle.hack_culprits.proofs.culprits.find_culprits.Goals as goal

pub returns-in-Ok-clause-found : goal.returns-in-Ok-clause-found
returns-in-Ok-clause-found g c =
    let aim = c.args.aim in
    let last = c.find_conflicts.new.builder in
    let ran = c.in-Ok.ensures.ran in
    let found = c.in-Ok.ensures.found in
    let ready : IsReady aim c.args.plan.now = record { room = c.requires.room; runs = c.len.ensures.runs; order = c.requires.order } in
    rw (c.in-Ok.plan-1-own.given.1 ran.1, c.in-Ok.runner-1-own.given.1 ran.0)
    (ran_hunt g.R.Runner.ran g.R.Judge.ended g.met.R.Runner.ran_none g.met.R.Runner.ran_more aim c.args.most_runs (finding_of c.in-Ok.found) (made_in aim.plain c.new-built.result.items) (made_in aim.plain last.built.now.items) _ last.fault c.args.plan.now last.plan.now
    c.args.runner.now last.runner.now (ap (made_in aim.plain) c.new-built.ensures.items) (ran.3 ready found.course.chosen) found)

pub returns-in-Err-Memory-clause-fault : goal.returns-in-Err-Memory-clause-fault
returns-in-Err-Memory-clause-fault g c =
    let aim = c.args.aim in
    let last = c.find_conflicts.new.builder in
    let cut = c.in-Err-Memory.ensures.fault in
    let ran = cut.1 in
    let ready : IsReady aim c.args.plan.now = record { room = c.requires.room; runs = c.len.ensures.runs; order = c.requires.order } in
    rw (c.plan-in-Err-Memory-1.given.1 ran.1, c.runner-in-Err-Memory-1.given.1 ran.0)
    (cut_hunt g.R.Runner.ran g.R.Judge.ended g.met.R.Runner.ran_none g.met.R.Runner.ran_more aim c.args.most_runs cut.0 (made_in aim.plain c.new-built.result.items) (made_in aim.plain last.built.now.items) last.fault _ c.args.plan.now last.plan.now
    c.args.runner.now last.runner.now (ap (made_in aim.plain) c.new-built.ensures.items) cut.2 (ran.3 ready cut.2.chosen) (λ made unbroken explained. unbroken (subst (IsFaultOf cut.0) c.in-Err-Memory.field-0-is cut.3)))

pub returns-clause-fault : goal.returns-clause-fault
returns-clause-fault g c =
    let aim = c.args.aim in
    let last = c.find_conflicts.new.builder in
    let cut = c.in-Err-Broken.ensures.fault in
    let ran = cut.1 in
    let ready : IsReady aim c.args.plan.now = record { room = c.requires.room; runs = c.len.ensures.runs; order = c.requires.order } in
    let after = made_in aim.plain last.built.now.items in
    rw (c.plan-in-Err-Broken-1.given.1 ran.1, c.runner-in-Err-Broken-1.given.1 ran.0)
    (cut_hunt g.R.Runner.ran g.R.Judge.ended g.met.R.Runner.ran_none g.met.R.Runner.ran_more aim c.args.most_runs cut.0 (made_in aim.plain c.new-built.result.items) after last.fault c.unwrap_or.result c.args.plan.now last.plan.now
    c.args.runner.now last.runner.now (ap (made_in aim.plain) c.new-built.ensures.items) cut.2 (ran.3 ready cut.2.chosen) (λ made unbroken explained. subst (λ (why : CulpritsFault). Explains why made last.plan.now) (sym c.unwrap_or.ensures) explained))
