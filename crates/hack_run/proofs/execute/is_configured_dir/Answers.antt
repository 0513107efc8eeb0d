use Rattle.std.proofs.Common.{◌∙◌, Bool, ap, codes, sym}
use Rattle.std.specs.Prelude.{◌||◌, nat_eq}
use Rattle.std.specs.List.{starts_with}
use Rattle.std.proofs.lemmas.Str.Pattern.{starts_text}
use Rattle.hack_run.proofs.execute.is_configured_dir.Goals as goal

pub returns-else-starts_with : goal.returns-else-starts_with
returns-else-starts_with c =
    starts_text c.starts_with-else-starts_with.result (codes "--config=build.target-dir") c.args.word.now c.starts_with-else-starts_with.ensures.cases
    ∙ ap (λ (b : Bool). b || starts_with nat_eq c.args.word.now (codes "--config=build.target-dir"))
    (sym c.if-starts_with.false ∙ starts_text c.starts_with.result (codes "build.target-dir") c.args.word.now c.starts_with.ensures.cases)
