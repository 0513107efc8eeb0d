use Rattle.std.proofs.Common.{rules, arith}
use Rattle.std.proofs.lemmas.Grind.{common_steps}
use Rattle.std.proofs.lemmas.Bool.Decides.{nat_tests}
use Rattle.toml.specs.Parse.{skip_bom}
use Rattle.toml.proofs.Turns.{bom_boundary}
use Rattle.hack_manifest.proofs.path.skip_mark.Goals as goal

pub range_from-requires : goal.range_from-requires
unfolding skip_bom
range_from-requires c _ = bom_boundary c.args.text.now c.utf8.text (grind (arith, nat_tests, common_steps))

pub returns-then-byte_at-eq191 : goal.returns-then-byte_at-eq191
unfolding skip_bom
returns-then-byte_at-eq191 c = search rules

pub returns-else-first-eq239 : goal.returns-else-first-eq239
unfolding skip_bom
returns-else-first-eq239 c = search rules
