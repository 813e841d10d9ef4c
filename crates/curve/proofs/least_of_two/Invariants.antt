-- `curve::least_of_two`: each turn is a stretch of the overlap of two pieces. Assumes nothing.
use Prim.Native.Nat.{ℕ, ◌+◌, ◌-◌, ◌≤◌}
use Rattle.quadratic.specs.Quad.{better, raised}
use Rattle.curve.specs.Pieces.{Emits, piece}
use Rattle.curve.proofs.Laws.{At}
use Rattle.curve.proofs.least_of_two.Given as goal

abbrev pub invariant-loop-x : goal.invariant-loop-x
invariant-loop-x l = ((l.x ≤ l.grid.levels) × (At l.initial.ws l.f l.grid.levels l.i l.x × At l.initial.ws l.g l.grid.levels l.k l.x)) × Emits (λ (j : ℕ). better (l.grid.base + j) (piece l.initial.ws l.f l.grid.levels j) (raised l.pen l.ch (piece l.initial.ws l.g l.grid.levels j))) l.initial.ws l.ws l.dst 0 0 l.x l.n

abbrev pub decreases-loop-x : goal.decreases-loop-x
decreases-loop-x l = l.grid.levels - l.x
