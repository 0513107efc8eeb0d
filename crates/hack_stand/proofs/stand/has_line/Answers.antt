use Rattle.std.proofs.Common.{List, ℕ, bytes_eq, rules, tests}
use Rattle.std.proofs.lemmas.Iterator.Search.{any_from_yields_List}
use Rattle.std.proofs.lemmas.Iterator.Splits.{YieldsList-from_lines}
use Rattle.hack_stand.proofs.stand.has_line.Goals as goal

pub returns : goal.returns
returns c = any_from_yields_List (λ (l : List ℕ). bytes_eq l c.args.line.now) _ _ _ c.any.ensures.ran (YieldsList-from_lines c.args.text.now cc) (λ x b q k. search (rules, tests))
