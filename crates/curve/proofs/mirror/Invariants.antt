-- `curve::mirror`: from the first piece to the last, written from the last place to the first. Assumes nothing.
use Prim.Native.Nat.{◌+◌, ◌-◌, ◌*◌}
use Rattle.curve.proofs.Turn.{Turning}
use Rattle.curve.proofs.Walks.{Walking}
use Rattle.curve.proofs.mirror.Given as goal

abbrev pub invariant-loop-piece : goal.invariant-loop-piece
invariant-loop-piece l = Walking l.initial.ws l.f l.grid.levels l.pieces × Turning (2 * l.grid.base + (l.grid.levels - 1)) l.grid.levels l.initial.ws l.ws l.f l.dst l.n l.pieces.index l.pieces.from

abbrev pub decreases-loop-piece : goal.decreases-loop-piece
decreases-loop-piece l = l.grid.levels - l.pieces.from
