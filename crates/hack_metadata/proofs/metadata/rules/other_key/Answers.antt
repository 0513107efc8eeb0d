use Rattle.std.proofs.Common.{ap, sym, ◌∙◌}
use Rattle.hack_base.specs.Names.{names_of}
use Rattle.hack_metadata.proofs.RuleLemmas.{first_other, other-keys}
use Rattle.hack_metadata.proofs.metadata.rules.other_key.Goals as goal

pub loop-key-init : goal.loop-key-init
loop-key-init c =
    ap (λ keys. first_other (names_of keys)) (c.into_iter-key-iterator.ensures.into_iter_gives ∙ c.keys-key-items.ensures.rest)
    ∙ sym (other-keys c.args.object.now.entries)
