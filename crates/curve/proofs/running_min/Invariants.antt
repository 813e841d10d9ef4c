-- `curve::running_min`: the least so far, piece by piece. Assumes nothing.
use mathlib.Core.Path.{◌≡◌}
use Prim.Native.Nat.{◌-◌, ◌≤◌}
use Rattle.quadratic.specs.Quad.{count_limit}
use Rattle.curve.specs.Lows.{best_of, costs, lowest, prefix_of}
use Rattle.curve.specs.Pieces.{Emits, piece}
use Rattle.curve.proofs.Walks.{Walking}
use Rattle.curve.proofs.running_min.Given as goal

abbrev pub invariant-loop-piece : goal.invariant-loop-piece
invariant-loop-piece l = (Walking l.initial.ws l.f l.grid.levels l.pieces × ((lowest (costs l.grid.base (piece l.initial.ws l.f l.grid.levels)) l.pieces.from ≡ best_of l.run) × (l.run.best.changes ≤ count_limit))) × Emits (prefix_of l.grid.base (piece l.initial.ws l.f l.grid.levels)) l.initial.ws l.ws l.dst 0 0 l.pieces.from l.run.n

abbrev pub decreases-loop-piece : goal.decreases-loop-piece
decreases-loop-piece l = l.grid.levels - l.pieces.from
