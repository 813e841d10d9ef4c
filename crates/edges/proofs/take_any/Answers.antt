-- `edges::take_any`: the least at the other levels, and the least of it and of what was there. Assumes nothing.
use native.Mathlib.Omega.{arith}
use Rattle.edges.proofs.Moves.{stands_joint, stands_acc, stands_work, stands_taken}
use Rattle.edges.proofs.take_any.Goals as goal

pub take-requires : goal.take-requires
take-requires c =
    let m = c.any_into.ensures in
    record { joint = (stands_joint c.requires m, (c.requires.low, omega arith)); limits = c.requires.limits; sound = (stands_acc c.requires m, stands_work c.requires m) }

pub returns : goal.returns
returns c = stands_taken c.requires c.any_into.ensures c.take.ensures
