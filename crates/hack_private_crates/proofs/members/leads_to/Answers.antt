use Rattle.std.proofs.Common.{◌∙◌, refl}
use Rattle.hack_private_crates.specs.Members.{leads}
use Rattle.hack_private_crates.proofs.members.leads_to.Goals as goal

pub returns : goal.returns
unfolding leads
returns c root member is = c.eq.ensures ∙ rw (c.as_str.ensures.value, c.in_ok-wanted.ensures, is) refl
