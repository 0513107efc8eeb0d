use Rattle.std.proofs.Common.{refl}
use Rattle.hack_prepare.proofs.FailedLemmas.{write-fails}
use Rattle.hack_prepare.specs.Internal.{Nowhere, Only}
use Rattle.hack_prepare.proofs.OrderLemmas.{next-one}
use Rattle.hack_prepare.proofs.StepLemmas.{replaced}
use Rattle.hack_prepare.proofs.replace.replace.Goals as goal

pub returns-in-Ok-clause-step : goal.returns-in-Ok-clause-step
returns-in-Ok-clause-step g c =
    replaced g.F.Files.tells (record { path = c.args.path.now; bytes = c.as_bytes.result.now }) c.args.held.now c.args.manager.now c.register_once.new.self
    (g.F.Files.bytes_at c.args.files.now) (g.F.Files.bytes_at c.write.new.files)
    c.as_bytes.ensures.value c.in_ok-register_once.ensures.ok c.register_once.ensures.needs c.write.ensures.others

pub returns-in-Err-clause-step : goal.returns-in-Err-clause-step
returns-in-Err-clause-step g c =
    replaced g.F.Files.tells (record { path = c.args.path.now; bytes = c.as_bytes.result.now }) c.args.held.now c.args.manager.now c.register_once.new.self
    (g.F.Files.bytes_at c.args.files.now) (g.F.Files.bytes_at c.write.new.files)
    c.as_bytes.ensures.value c.in_ok-register_once.ensures.ok c.register_once.ensures.needs c.write.ensures.others

pub returns-in-Ok-clause-order : goal.returns-in-Ok-clause-order
returns-in-Ok-clause-order g c =
    next-one (record { path = c.args.path.now; bytes = c.as_bytes.result.now }) c.args.manager.now c.register_once.new.self c.in_ok-register_once.ensures.ok

pub returns-in-Err-clause-calls : goal.returns-in-Err-clause-calls
returns-in-Err-clause-calls g c =
    write-fails g.F.Files Nowhere Nowhere (Only c.args.path.now) c.args.path.now c.in-Err.fault c.of_file.result c.args.files.now c.write.new.files refl c.in-Err.ensures.fault c.of_file.ensures
    (record { unseen = c.write.ensures.unseen_none; refused = c.in-Err.ensures.refused_path })
