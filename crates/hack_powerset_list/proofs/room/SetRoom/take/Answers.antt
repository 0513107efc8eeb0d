use Rattle.hack_powerset_list.proofs.RoomLemmas.{drop-one}
use Rattle.hack_powerset_list.proofs.room.SetRoom.take.Goals as goal

pub returns-then-self-len-clause-set : goal.returns-then-self-len-clause-set
returns-then-self-len-clause-set c = drop-one c.args.self.now.start c.args.self.now.places.items
