-- `edges::take_up`: the running minimum, shifted, and the least of it and of what was there. Assumes nothing.
use native.Mathlib.Omega.{arith}
use Rattle.edges.proofs.Moves.{moved_stands, stands_joint, stands_acc, stands_work, stands_taken}
use Rattle.edges.proofs.take_up.Goals as goal

pub take-requires : goal.take-requires
take-requires c =
    let m = moved_stands c.requires.0 c.up_into.ensures in
    record { joint = (stands_joint c.requires.0 m, (c.requires.0.low, omega arith)); limits = c.requires.0.limits; sound = (stands_acc c.requires.0 m, stands_work c.requires.0 m) }

pub returns : goal.returns
returns c = stands_taken c.requires.0 (moved_stands c.requires.0 c.up_into.ensures) c.take.ensures
