use Rattle.std.proofs.Common.{◌≡◌, ◌-◌, [], length}
use Rattle.std.specs.Option.{option_map}
use denote.Shadow.{shadow}
use denote.Text.{Utf8}
use Rattle.hack_files.specs.Files.{KeepsAll, Makes}
use Rattle.hack_files.specs.FailedCalls.{NoneFailed}
use Rattle.hack_places.specs.Folders.{above, folders, said_in, workspace_around}
use Rattle.hack_places.specs.LookedPaths.{AreLeft}
use Rattle.hack_base.specs.Counters.{GrowsBy}
use Rattle.hack_places.proofs.FolderLemmas.{rest_of}
use Rattle.hack_places.proofs.workspace.workspace.Given as goal

abbrev pub invariant-loop-step : goal.invariant-loop-step
invariant-loop-step g l = record {
  utf8 : shadow (Utf8 l.folder);
  found : g.F.Files.tells
      → workspace_around (g.F.Files.bytes_at l.fn.files) l.pkg_dir ≡ rest_of (g.F.Files.bytes_at l.fn.files) l.pkg_dir (option_map (λ first. first.now) l.leaving) (length l.pkg_dir - l._step) l.folder;
  counted : GrowsBy 0 (g.F.Files.failed l.fn.files) (g.F.Files.failed l.files);
  way : AreLeft g.F.Files.tells (said_in (g.F.Files.bytes_at l.fn.files) l.pkg_dir) (folders l.pkg_dir) (above (length l.pkg_dir - l._step) l.folder);
  seen : NoneFailed g.F.Files l.fn.files l.files;
  same : g.F.Files.tells → KeepsAll (g.F.Files.bytes_at l.fn.files) (g.F.Files.bytes_at l.files);
  untraced : g.F.Files.whole → Makes [] (g.F.Files.trace l.fn.files) (g.F.Files.trace l.files) (g.F.Files.bytes_at l.fn.files) (g.F.Files.bytes_at l.files);
}
