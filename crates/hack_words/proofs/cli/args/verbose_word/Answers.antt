use Rattle.std.proofs.Common.{ap, sym, ◌∙◌, ◌++◌, append_assoc, codes}
use Rattle.std.specs.List.{repeat}
use Rattle.hack_base.proofs.ListLemmas.{repeat-more}
use Rattle.hack_words.proofs.cli.args.verbose_word.Goals as goal

pub loop-preserved : goal.loop-preserved
loop-preserved c =
    c.in_ok-push_str.ensures.bytes
    ∙ ap (λ front. front ++ codes "v") c.loop.invariant
    ∙ append_assoc (codes "-") (repeat c.loop.counter (codes "v")) (codes "v")
    ∙ ap (λ rest. codes "-" ++ rest) (sym (repeat-more c.loop.counter (codes "v")))
