-- `curve::value_at`: the piece at the level is the first that does not end before it. Assumes nothing.
use mathlib.Core.List.{List}
use Prim.Native.Nat.{ℕ, ◌-◌, ◌≤◌}
use Rattle.curve.specs.Pieces.{start_of}
use Rattle.curve.proofs.Laws.{At}
use Rattle.curve.proofs.value_at.Given as goal

-- the ith piece starts at j or before
abbrev pub From : List ℕ → ℕ → ℕ → ℕ → ℕ → Type 0
From ws o L j i = At ws o L i (start_of ws o i) × (start_of ws o i ≤ j)

abbrev pub invariant-loop-i : goal.invariant-loop-i
invariant-loop-i l = From l.ws l.f l.grid.levels l.j l.i

abbrev pub decreases-loop-i : goal.decreases-loop-i
decreases-loop-i l = l.grid.levels - l.i
