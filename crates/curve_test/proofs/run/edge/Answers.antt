-- `curve_test::run::edge`: once it is tested. Assumes nothing.
use Rattle.curve_test.specs.Valid.{ready}
use Rattle.curve_test.proofs.run.edge.Goals as goal

pub take_edge-requires : goal.take_edge-requires
take_edge-requires c = let h = c.in_hand.ensures c.if-not-in_hand.false in let v = c.valid.ensures c.if-not-valid.false in let w = c.valid-2.ensures c.if-not-valid-2.false in (ready h v w (c.room.ensures c.if-not-room.false).1 (c.room-2.ensures c.if-not-room-2.false).1 c.if-pen-gt1048576.false, c.kind_of-kind.ensures)
