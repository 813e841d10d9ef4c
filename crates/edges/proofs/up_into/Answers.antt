-- `edges::up_into`: the running minimum, shifted. Assumes nothing.
use native.Mathlib.Omega.{arith}
use Rattle.curve.specs.Curve.{curve_reads, curve_sized, curve_whole}
use Rattle.edges.proofs.Moves.{up1, up_moved}
use Rattle.edges.proofs.up_into.Goals as goal

pub running_min-requires : goal.running_min-requires
running_min-requires c =
    let h = c.requires.into.0 in
    let l = c.requires.limits.0 in
    record { lent = (curve_reads c.args.next c.requires.limits.1 h.f_next, h.room_next); by_index = curve_whole l c.requires.limits.1 }

pub shift-requires : goal.shift-requires
shift-requires c =
    let h = c.requires.into.0 in
    let l = c.requires.limits.0 in
    let m = c.running_min.ensures in
    let k = up1 h m l c.requires.limits.1 in
    record { lent = (curve_reads c.args.work k h.next_work, omega (arith, h.room_work, m.kept.size)); gap_bound = c.requires.into.1; by_index = curve_sized l k }

pub returns : goal.returns
returns c = up_moved c.requires.into.0 c.running_min.ensures c.args.gap c.shift.ensures
