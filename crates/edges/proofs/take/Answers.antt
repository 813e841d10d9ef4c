-- `edges::take`: the least of two lists. Assumes nothing.
use Prim.Native.Nat.{◌+◌, ◌-◌, ◌≤◌}
use native.Mathlib.Omega.{arith}
use Rattle.quadratic.specs.Quad.{cost_limit, count_limit}
use Rattle.curve.specs.Curve.{curve_reads, curve_sized, curve_raised, curve_yields}
use Rattle.edges.proofs.Moves.{joined}
use Rattle.edges.proofs.take.Goals as goal

pub least_of_two-requires : goal.least_of_two-requires
least_of_two-requires c =
    let h = c.requires.joint.0 in
    let l = c.requires.limits in
    let x : count_limit - 1 + c.args.ch ≤ count_limit = omega (arith, c.requires.joint.1.1) in
    let y : cost_limit - c.args.pen + c.args.pen ≤ cost_limit = omega (arith, c.requires.joint.1.0) in
    let a = c.requires.sound.0 in
    let g = c.requires.sound.1 in record { lent = (curve_reads c.args.next a h.acc_next, (curve_reads c.args.next g h.g_next, h.room_next)); pen_bound = omega (arith, c.requires.joint.1); by_index = curve_sized l a; by_index_2 = curve_raised c.args.pen c.args.ch x y l g; by_index_3 = curve_yields c.args.pen c.args.ch x y l g a }

pub returns : goal.returns
returns c = joined c.requires.joint.0 c.least_of_two.ensures
