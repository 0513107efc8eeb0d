use Rattle.std.proofs.Common.{◌∙◌, ap, not, sym, string_bytes}
use Rattle.std.specs.Prelude.{◌==◌}
use Rattle.std.proofs.lemmas.List.{length-map}
use Rattle.hack_planner.proofs.package_rules.has_names.Goals as goal

pub returns : goal.returns
returns c = ap not (c.is_empty.ensures ∙ ap (λ n. n == 0) (sym (length-map c.args.names.now string_bytes)))
