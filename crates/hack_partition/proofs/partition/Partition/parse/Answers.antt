use Rattle.std.proofs.Common.{inr}
use Rattle.hack_partition.proofs.PieceReading.{piece-read, piece-unread}
use Rattle.hack_partition.proofs.partition.Partition.parse.Goals as goal

pub returns-in-Some-clause-value : goal.returns-in-Some-clause-value
returns-in-Some-clause-value c = piece-read c.args.text.now c.in-Some.partition.piece c.in-Some.partition.count c.in-Some.ensures.piece

pub returns-in_ok-from_str-in-None-clause-value : goal.returns-in_ok-from_str-in-None-clause-value
returns-in_ok-from_str-in-None-clause-value c = inr (piece-unread c.args.text.now c.in-None.ensures.none)
