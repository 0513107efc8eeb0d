use Rattle.std.proofs.Common.{rules, tests}
use Rattle.std.proofs.lemmas.Iterator.Consumers.{YieldsList-from_first}
use Rattle.std.proofs.lemmas.Iterator.Search.{any_from_yields_List}
use Rattle.hack_report.specs.Reported.{is_failed_preparation}
use Rattle.hack_report.proofs.report.is_unprepared.Goals as goal

pub returns : goal.returns
returns c = any_from_yields_List is_failed_preparation _ _ _ c.any.ensures.ran (YieldsList-from_first _ _ c.args.handed cc) (λ x b q k. search (rules, tests))
