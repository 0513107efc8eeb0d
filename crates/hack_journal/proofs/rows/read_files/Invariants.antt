use Rattle.std.proofs.Common.{[]}
use Rattle.hack_base.specs.Counters.{GrowsBy}
use Rattle.hack_files.specs.Files.{KeepsAll, Makes}
use Rattle.hack_files.specs.FailedCalls.{NoneFailed}
use Rattle.hack_journal.specs.Journal.{edits_of}
use Rattle.hack_journal.specs.Rows.{AreRead, spot_of}
use Rattle.hack_journal.proofs.rows.read_files.Given as goal

abbrev pub invariant-loop-number : goal.invariant-loop-number
invariant-loop-number g l = record {
  failures : GrowsBy 0 (g.F.Files.failed l.fn.files) (g.F.Files.failed l.files);
  calls : NoneFailed g.F.Files l.fn.files l.files;
  same : g.F.Files.tells → KeepsAll (g.F.Files.bytes_at l.fn.files) (g.F.Files.bytes_at l.files);
  untraced : g.F.Files.whole → Makes [] (g.F.Files.trace l.fn.files) (g.F.Files.trace l.files) (g.F.Files.bytes_at l.fn.files) (g.F.Files.bytes_at l.files);
  read : g.F.Files.tells → AreRead (spot_of l.place) (g.F.Files.bytes_at l.fn.files) l.number (edits_of l.entries.items);
}
