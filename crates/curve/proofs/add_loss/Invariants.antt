-- `curve::add_loss`: piece by piece. Assumes nothing.
use Prim.Native.Nat.{ℕ, ◌-◌}
use Rattle.quadratic.specs.Quad.{pushed}
use Rattle.curve.specs.Pieces.{Emits, piece}
use Rattle.curve.proofs.Walks.{Walking}
use Rattle.curve.proofs.add_loss.Given as goal

abbrev pub invariant-loop-piece : goal.invariant-loop-piece
invariant-loop-piece l = Walking l.initial.ws l.f l.grid.levels l.pieces × Emits (λ (j : ℕ). pushed l.w l.u (piece l.initial.ws l.f l.grid.levels j)) l.initial.ws l.ws l.dst 0 0 l.pieces.from l.pieces.index

abbrev pub decreases-loop-piece : goal.decreases-loop-piece
decreases-loop-piece l = l.grid.levels - l.pieces.from
