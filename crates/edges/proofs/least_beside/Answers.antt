-- `edges::least_beside`: the lower of the two ranges. Assumes nothing.
use Rattle.edges.specs.Back.{both_as}
use native.Mathlib.Omega.{arith}
use Rattle.edges.proofs.least_beside.Goals as goal

pub returns : goal.returns
returns c = both_as c.lower_of.ensures (λ i k p q. omega arith) c.least_below-below.ensures c.least_above-above.ensures
