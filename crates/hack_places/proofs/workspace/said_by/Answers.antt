use Rattle.std.proofs.lemmas.Result.{IfOk-weaker}
use Rattle.hack_places.proofs.FolderLemmas.{say_text, say_torn}
use Rattle.hack_places.specs.Internal.{saying}
use Rattle.hack_places.proofs.workspace.said_by.Goals as goal

pub returns-in-Ok : goal.returns-in-Ok
returns-in-Ok c =
    IfOk-weaker c.said_by_text.result _ _
    (λ said is. say_text c.args.folder.now c.args.pkg_dir.now c.args.bytes.now c.in-Ok.text.now (saying said) c.in-Ok.ensures.cases.0 c.in-Ok.ensures.cases.1 is) c.said_by_text.ensures

pub returns-in-Err : goal.returns-in-Err
returns-in-Err c = say_torn c.args.folder.now c.args.pkg_dir.now c.args.bytes.now (saying c.said_by_torn.result) c.in-Err.ensures.cases.0 c.said_by_torn.ensures
