use Rattle.std.proofs.lemmas.Result.{on_ok_weaker}
use Rattle.hack_process.specs.Commands.{command_of, line_text}
use Rattle.hack_plan.specs.Lines.{listed_text}
use Rattle.hack_session.proofs.ListLemmas.{shown_lines}
use Rattle.hack_session.proofs.lister.put_two.Goals as goal

pub returns-clause-written : goal.returns-clause-written
returns-clause-written g c =
    on_ok_weaker c.put_text.result
    (λ written. shown_lines _ _ c.args.dir.now (command_of c.args.cleaning.now) (line_text c.listed.result) (listed_text c.args.own) c.listed.ensures written)
    c.put_text.ensures.written
