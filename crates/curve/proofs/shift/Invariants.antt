-- `curve::shift`: none up to the gap, then piece by piece, the last one cut. Assumes nothing.
use Prim.Native.Nat.{◌+◌, ◌-◌, min}
use Rattle.curve.specs.Pieces.{Emits, piece, shift_of}
use Rattle.curve.proofs.Walks.{Walking}
use Rattle.curve.proofs.shift.Given as goal

abbrev pub invariant-loop-piece : goal.invariant-loop-piece
invariant-loop-piece l = Walking l.initial.ws l.f l.grid.levels l.pieces × Emits (shift_of l.gap (piece l.initial.ws l.f l.grid.levels)) l.initial.ws l.ws l.dst l.initial.n l.gap (min l.pieces.from (l.grid.levels - l.gap) + l.gap) l.n

abbrev pub decreases-loop-piece : goal.decreases-loop-piece
decreases-loop-piece l = l.grid.levels - l.pieces.from
