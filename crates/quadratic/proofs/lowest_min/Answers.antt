-- `quadratic::lowest_min`: the slope's turn; with no square, q is level or falls. Assumes nothing.
use mathlib.Core.Path.{◌≡◌}
use Prim.Native.Nat.{ℕ, ◌-◌}
use Rattle.quadratic.specs.Quad.{Quad, Lowest}
use Rattle.quadratic.specs.Places.{lowest_place, lowest_is}
use Rattle.quadratic.proofs.Laws.{lowest_at_turn, level, slope}
use Rattle.quadratic.proofs.lowest_min.Goals as goal

-- the place, and that it is the lowest
both : {q : Quad} {x y r : ℕ} → Lowest q x y r → (r ≡ lowest_place q x (y - x)) × Lowest q x y r
both l = (lowest_is _ _ _ _ l, l)

pub returns-then-q-eq0 : goal.returns-then-q-eq0
returns-then-q-eq0 c = both (level _ _ _ c.if-a-eq0.true c.if-q-eq0.true c.requires.1.0)

pub returns-then-a-eq0 : goal.returns-then-a-eq0
returns-then-a-eq0 c = both (slope _ _ _ c.if-a-eq0.true c.if-q-eq0.false c.requires.1.0)

pub returns : goal.returns
returns c = both (lowest_at_turn _ _ _ _ c.turning_point.ensures)
