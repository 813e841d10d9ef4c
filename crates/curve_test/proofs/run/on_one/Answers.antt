-- `curve_test::run::on_one`: once it is tested. Assumes nothing.
use Rattle.curve_test.specs.Valid.{within, copyable}
use Rattle.std.proofs.Common.{arith}
use Rattle.curve.specs.Curve.{curve_reads, curve_sized, curve_turnable, curve_whole}
use Rattle.curve_test.proofs.run.on_one.Goals as goal

pub add_loss-requires : goal.add_loss-requires
add_loss-requires c = let v = c.valid.ensures c.if-not-valid.false in record { lent = (curve_reads c.args.dst v.list (c.apart.ensures c.if-not-apart.false), (c.room.ensures c.if-not-room.false).1); u_bound = (omega (arith, c.place-u.ensures), c.weight-w.ensures); by_index = curve_sized (within v) v.list }

pub shift-requires : goal.shift-requires
shift-requires c = let v = c.valid.ensures c.if-not-valid.false in record { lent = (curve_reads c.args.dst v.list (c.apart.ensures c.if-not-apart.false), (c.room.ensures c.if-not-room.false).1); gap_bound = omega arith; by_index = curve_sized (within v) v.list }

pub mirror-requires : goal.mirror-requires
mirror-requires c = let v = c.valid.ensures c.if-not-valid.false in record { lent = (curve_reads c.args.dst v.list (c.apart.ensures c.if-not-apart.false), (c.room.ensures c.if-not-room.false).1); le_base = v.limits.low; by_index = curve_turnable (within v) v.list }

pub running_min-requires : goal.running_min-requires
running_min-requires c = let v = c.valid.ensures c.if-not-valid.false in record { lent = (curve_reads c.args.dst v.list (c.apart.ensures c.if-not-apart.false), (c.room.ensures c.if-not-room.false).1); by_index = curve_whole (within v) v.list }

pub count-n-requires : goal.count-n-requires
count-n-requires c = let v = c.valid.ensures c.if-not-valid.false in (v.list.held, omega (arith, v.limits.high))

pub copy-requires : goal.copy-requires
copy-requires c = let v = c.valid.ensures c.if-not-valid.false in (copyable v c.args.dst (c.apart.ensures c.if-not-apart.false) (c.room.ensures c.if-not-room.false).1, omega (arith, v.limits.high))
