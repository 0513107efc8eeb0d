use Rattle.std.proofs.Common.{◌≡◌, drop}
use Rattle.hack_words.specs.EnvView.{variable, vars_of}
use Rattle.hack_words.proofs.cli.env.variable.Given as goal

abbrev pub invariant-loop-key : goal.invariant-loop-key
invariant-loop-key l = variable l.name (vars_of l.vars) ≡ variable l.name (vars_of (drop l.key-index l.vars))
