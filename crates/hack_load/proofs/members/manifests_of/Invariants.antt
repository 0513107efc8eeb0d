use Rattle.std.proofs.Common.{[], take, map}
use Rattle.std.specs.List.{AllZip}
use Rattle.hack_files.specs.Files.{Makes}
use Rattle.hack_files.specs.FailedCalls.{NoneFailed}
use Rattle.hack_metadata.specs.FilesAfterAsking.{Whole}
use Rattle.hack_metadata.specs.RecordViews.{place_at}
use Rattle.hack_metadata.specs.MetadataView.{metadata_view}
use Rattle.hack_load.specs.CargoQuestions.{IsOfMember}
use Rattle.hack_load.proofs.members.manifests_of.Given as goal

-- the members so far have their manifests, and nothing else happened to the files
abbrev pub invariant-loop-id : goal.invariant-loop-id
invariant-loop-id g l =
    g.F.Files.stays l.fn.files l.files
    × Whole g.F.Files.tells (g.F.Files.bytes_at l.fn.files) (g.F.Files.bytes_at l.files) (g.F.Files.failed l.fn.files) (g.F.Files.failed l.files)
    × AllZip (IsOfMember g.F.Files.tells (g.F.Files.bytes_at l.fn.files) (metadata_view l.metadata)) (map place_at (take l.id-index l.metadata.workspace_members.items)) l.found.items
    × (g.F.Files.whole → Makes [] (g.F.Files.trace l.fn.files) (g.F.Files.trace l.files) (g.F.Files.bytes_at l.fn.files) (g.F.Files.bytes_at l.files))
    × NoneFailed g.F.Files l.fn.files l.files
