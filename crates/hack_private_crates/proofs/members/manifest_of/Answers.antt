use Rattle.std.proofs.Common.{refl}
use Rattle.hack_private_crates.proofs.members.manifest_of.Goals as goal

pub returns : goal.returns
returns c = rw (c.in_ok-found.ensures, c.as_str-2.ensures.value, c.in_ok-manifest.ensures, c.as_str.ensures.value, c.in_ok-folder.ensures) refl
