use Rattle.hack_prepare.proofs.told.tell_dev.Goals as goal

pub returns : goal.returns
returns c = rw c.in_ok-text.ensures.ok at c.tell.ensures.told
