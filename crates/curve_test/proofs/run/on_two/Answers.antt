-- `curve_test::run::on_two`: once it is tested. Assumes nothing.
use Rattle.curve_test.specs.Valid.{within, sound}
use Rattle.std.proofs.Common.{arith}
use Rattle.curve.specs.Curve.{curve_reads, curve_sized, curve_raised, curve_yields}
use Rattle.curve_test.proofs.run.on_two.Goals as goal

pub least_of_two-requires : goal.least_of_two-requires
least_of_two-requires c = let v = c.valid.ensures c.if-not-valid.false in let w = c.valid-2.ensures c.if-not-valid-2.false in record { lent = (curve_reads c.args.dst v.list (c.apart.ensures c.if-not-apart.false), (curve_reads c.args.dst w.list (c.apart-2.ensures c.if-not-apart-2.false), (c.room.ensures c.if-not-room.false).1)); pen_bound = (omega (arith, c.penalty-pen.ensures), omega (arith, c.changes-ch.ensures)); by_index = curve_sized (within v) v.list; by_index_2 = curve_raised c.penalty-pen.result c.changes-ch.result (omega (arith, c.changes-ch.ensures)) (omega (arith, c.penalty-pen.ensures)) v.limits w.list; by_index_3 = curve_yields c.penalty-pen.result c.changes-ch.result (omega (arith, c.changes-ch.ensures)) (omega (arith, c.penalty-pen.ensures)) v.limits w.list (sound v) }
