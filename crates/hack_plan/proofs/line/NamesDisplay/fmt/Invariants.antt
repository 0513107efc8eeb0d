use Rattle.std.proofs.Common.{◌≡◌, ◌++◌, map, string_bytes, take, true}
use Rattle.std.specs.Fmt.{HasWritten, IsPlainFormatter}
use Rattle.hack_features.specs.Feature.{groups_of}
use Rattle.hack_plan.specs.Commands.{candidate_names_at}
use Rattle.hack_plan.specs.Internal.{is_still_first, joined_names}
use Rattle.hack_plan.proofs.line.NamesDisplay.fmt.Given as goal

-- the names so far are written
abbrev pub invariant-loop-position : goal.invariant-loop-position
invariant-loop-position g l =
    let written = map string_bytes l.self.features.now ++ candidate_names_at (groups_of l.self.candidates.now) (take l.position-index l.position-items) in
    (l.is_first ≡ is_still_first true written)
    × (IsPlainFormatter l.fn.f → HasWritten g.W.Write.write_str_gives l.fn.f (joined_names true written) l.f)
