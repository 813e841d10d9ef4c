-- `edges::down_into`: mirrored, the running minimum, shifted, mirrored back. Assumes nothing.
use Prim.Native.Nat.{◌*◌}
use native.Mathlib.Omega.{arith}
use Rattle.curve.specs.Curve.{curve_reads, curve_sized, curve_whole, curve_turnable}
use Rattle.edges.specs.Edge.{apart_swap}
use Rattle.edges.proofs.Moves.{down1, down2, down3, down_moved}
use Rattle.edges.proofs.down_into.Goals as goal

pub mirror-requires : goal.mirror-requires
mirror-requires c =
    let h = c.requires.into.0 in
    let l = c.requires.limits.0 in
    record { lent = (curve_reads c.args.next c.requires.limits.1 h.f_next, h.room_next); le_base = l.low; by_index = curve_turnable l c.requires.limits.1 }

pub running_min-requires : goal.running_min-requires
running_min-requires c =
    let h = c.requires.into.0 in
    let l = c.requires.limits.0 in
    let m = c.mirror.ensures in
    let k = down1 h m l c.requires.limits.1 in
    record { lent = (curve_reads c.args.work k h.next_work, omega (arith, h.room_work, m.kept.size)); by_index = curve_whole l k }

pub shift-requires : goal.shift-requires
shift-requires c =
    let h = c.requires.into.0 in
    let l = c.requires.limits.0 in
    let m = c.mirror.ensures in
    let n = c.running_min.ensures in
    let k = down2 h m n l c.requires.limits.1 in
    record { lent = (curve_reads c.args.next k (apart_swap c.args.next c.args.work (4 * c.args.grid.levels) h.next_work), omega (arith, h.room_next, m.kept.size, n.kept.size)); gap_bound = c.requires.into.1; by_index = curve_sized l k }

pub mirror-requires-2 : goal.mirror-requires-2
mirror-requires-2 c =
    let h = c.requires.into.0 in
    let l = c.requires.limits.0 in
    let m = c.mirror.ensures in
    let n = c.running_min.ensures in
    let o = c.shift.ensures in
    let k = down3 h m n c.args.gap o l c.requires.limits.1 in
    record { lent = (curve_reads c.args.work k h.next_work, omega (arith, h.room_work, m.kept.size, n.kept.size, o.kept.size)); le_base = l.low; by_index = curve_turnable l k }

pub returns : goal.returns
returns c =
    down_moved c.requires.into.0 c.mirror.ensures c.running_min.ensures c.args.gap c.shift.ensures c.mirror-2.ensures
