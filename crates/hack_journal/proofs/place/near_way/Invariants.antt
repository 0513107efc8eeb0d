use denote.Shadow.{shadow}
use denote.Text.{Utf8}
use Rattle.std.proofs.Common.{◌≡◌, codes, string_bytes}
use Rattle.std.specs.List.{repeat}
use Rattle.hack_base.specs.PathTexts.{normal_of}
use Rattle.hack_journal.specs.Internal.{NoneClimbs}
use Rattle.hack_journal.specs.Keeping.{folder_above}
use Rattle.hack_journal.proofs.place.near_way.Given as goal

abbrev pub invariant-loop-steps : goal.invariant-loop-steps
invariant-loop-steps l = record {
  ups : string_bytes l.ups ≡ repeat l.steps (codes "../");
  above : l.above ≡ folder_above l.steps (normal_of l.folder);
  text : shadow (Utf8 l.above);
  none : NoneClimbs l.folder l.path l.steps;
}
