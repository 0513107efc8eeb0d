use Rattle.std.proofs.Common.{◌≡◌, [], length, take, fold}
use Rattle.std.specs.List.{slice_split}
use Rattle.hack_base.specs.PathTexts.{with_part, is_slash}
use Rattle.hack_base.specs.Names.{names_behind}
use Rattle.hack_base.proofs.paths.kept_parts.Given as goal

abbrev pub invariant-loop-part : goal.invariant-loop-part
invariant-loop-part l = names_behind l.kept.items ≡ fold (with_part l.rooted) [] (take (length l.yielded) (slice_split is_slash l.p))
