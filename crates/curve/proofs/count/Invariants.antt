-- `curve::count`: from piece to piece. Assumes nothing.
use mathlib.Core.Path.{◌≡◌}
use Prim.Native.Nat.{◌-◌}
use Rattle.curve.specs.Pieces.{start_of}
use Rattle.curve.proofs.Walks.{Walking}
use Rattle.curve.proofs.count.Given as goal

abbrev pub invariant-loop-n : goal.invariant-loop-n
invariant-loop-n l = Walking l.ws l.f l.levels l.pieces × ((start_of l.ws l.f l.n ≡ l.pieces.from) × (l.n ≡ l.pieces.index))

abbrev pub decreases-loop-n : goal.decreases-loop-n
decreases-loop-n l = l.levels - l.pieces.from
