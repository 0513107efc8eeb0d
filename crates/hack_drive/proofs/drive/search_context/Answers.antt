use Rattle.std.proofs.Common.{map}
use Rattle.hack_base.specs.Notes.{note_of}
use Rattle.hack_drive.proofs.drive.search_context.Goals as goal

pub returns-clause-ran : goal.returns-clause-ran
returns-clause-ran g c = (
  map note_of c.in_ok-plan.notices.items,
  c.tell.new.self,
  c.in_ok-plan.ensures.ok,
  rw c.as_slice.ensures.value at c.tell.ensures,
  c.in_ok-found.ensures.searched,
)
