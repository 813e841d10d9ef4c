-- `curve::least_in`: the least so far, piece by piece. Assumes nothing.
use Prim.Native.Nat.{◌-◌}
use Rattle.curve.specs.Lows.{costs}
use Rattle.curve.specs.Pieces.{piece}
use Rattle.curve.proofs.Walks.{Walking}
use Rattle.curve.proofs.Prefix.{Till}
use Rattle.curve.proofs.least_in.Given as goal

abbrev pub invariant-loop-piece : goal.invariant-loop-piece
invariant-loop-piece l = Walking l.ws l.f l.grid.levels l.pieces × Till (costs l.grid.base (piece l.ws l.f l.grid.levels)) l.from l.to l.pieces.from l.best

abbrev pub decreases-loop-piece : goal.decreases-loop-piece
decreases-loop-piece l = l.grid.levels - l.pieces.from
