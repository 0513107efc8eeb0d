use Rattle.std.proofs.Common.{◌≡◌, None, rules, sym, ap, ◌∙◌, option_map}
use Rattle.toml.specs.Data.{as_str}
use Rattle.toml.specs.View.{view}
use Rattle.hack_private_crates.proofs.members.value_unled.Goals as goal

pub returns-in-None : goal.returns-in-None
returns-in-None c =
    let none : as_str (view c.args.item.now) ≡ None = sym c.as_str.ensures ∙ ap (option_map (λ s. s.now)) c.in-None.is in
    rw none (search rules)
