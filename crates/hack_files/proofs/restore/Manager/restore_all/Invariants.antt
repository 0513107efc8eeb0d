use Rattle.std.proofs.Common.{[], ◌≡◌, ◌≤◌, ◌<◌, ◌↔◌, ◌⊎◌, IsTrue, false, map, option_map}
use Rattle.hack_base.specs.Counters.{GrowsBy}
use Rattle.hack_base.specs.Streams.{stream_of}
use Rattle.hack_files.specs.Restore.{kept_file}
use Rattle.hack_files.proofs.RestoreLemmas.{BackBut, TriedTo}
use Rattle.hack_files.proofs.WriteBackLemmas.{SaysTo}
use Rattle.hack_files.proofs.restore.Manager.restore_all.Given as goal

abbrev pub invariant-loop-file : goal.invariant-loop-file
invariant-loop-file g l =
    (l.failures ≤ l.file-index)
    × g.F.Files.stays l.fn.files l.files
    × GrowsBy l.failures (g.F.Files.failed l.fn.files) (g.F.Files.failed l.files)
    × ((back : BackBut (g.F.Files.refuses l.fn.files l.files) g.F.Files.tells (map kept_file l.file-items) l.file-index l.failures (g.F.Files.bytes_at l.fn.files) (g.F.Files.bytes_at l.files))
    × SaysTo l.fn.term.coloring l.fn.term.verbose (option_map (λ text. text.now) l.fn.reported) (map kept_file l.file-items) l.file-index back.spoilt (stream_of g.W.Sink l.fn.err) (stream_of g.W.Sink l.err))
    × (g.F.Files.whole → TriedTo (map kept_file l.file-items) l.file-index l.failures (g.F.Files.trace l.fn.files) (g.F.Files.trace l.files) (g.F.Files.bytes_at l.fn.files) (g.F.Files.bytes_at l.files))
    × (IsTrue l.term.error ↔ (IsTrue l.fn.term.error ⊎ (0 < l.failures)))
    × (l.term ≡ record l.fn.term { error = l.term.error })
    × (l.fn.term.verbose ≡ false → l.failures ≡ 0 → l.err ≡ l.fn.err)
    × g.F.Files.unseen l.fn.files l.files []
