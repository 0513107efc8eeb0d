use Rattle.std.proofs.Common.{◌∙◌, Bool, ap, codes, sym}
use Rattle.std.specs.Prelude.{◌||◌, nat_eq}
use Rattle.std.specs.List.{starts_with}
use Rattle.std.proofs.lemmas.Str.Pattern.{starts_text}
use Rattle.hack_run.proofs.execute.is_target_option.Goals as goal

pub returns-else-eq : goal.returns-else-eq
returns-else-eq c =
    starts_text c.starts_with.result (codes "--target-dir=") c.args.word.now c.starts_with.ensures.cases
    ∙ ap (λ (b : Bool). b || starts_with nat_eq c.args.word.now (codes "--target-dir=")) (sym c.if-eq.false ∙ c.eq.ensures)
