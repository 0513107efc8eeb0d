use Rattle.hack_process.specs.Commands.{command_of}
use Rattle.hack_plan.specs.Lines.{listed_text}
use Rattle.hack_session.proofs.ListLemmas.{two_lines}
use Rattle.hack_session.proofs.lister.list_run.Goals as goal

pub returns-clause-written : goal.returns-clause-written
returns-clause-written g c =
    two_lines c.put_two.result c.args.plan.now _ (listed_text c.in_ok-own.own) (command_of c.in_ok-cleaning.cleaning) _ _ _
    c.in_ok-own.ensures.text c.in_ok-cleaning.ensures c.if-not-cleans_per_run.ensures c.dir.ensures c.put_two.ensures.written
