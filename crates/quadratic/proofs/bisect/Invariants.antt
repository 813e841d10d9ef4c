use Prim.Native.Nat.{◌-◌, ◌≤◌, ◌<◌}
use Rattle.quadratic.specs.Quad.{quad, Under, Over}
use Rattle.quadratic.proofs.bisect.Given as goal

abbrev pub invariant-loop-e : goal.invariant-loop-e
invariant-loop-e l = ((l.lo ≤ l.b) × (l.b < l.e)) × ((l.e ≤ l.hi) × (Under (quad l.w) (quad l.l) l.b × Over (quad l.w) (quad l.l) l.e))

abbrev pub decreases-loop-e : goal.decreases-loop-e
decreases-loop-e l = l.e - l.b
