-- `quadratic::turning_point`: the quotient's bounds are the slope's signs. Assumes nothing.
use native.Mathlib.Omega.{arith}
use Rattle.quadratic.proofs.turning_point.Goals as goal

pub returns : goal.returns
returns c = let s = c.before in record { low = c.cut.ensures.low; high = c.cut.ensures.high; falls = λ m g h. omega (arith, c.cut.ensures.under m g h); rises = λ m g h. omega (arith, c.cut.ensures.over m g h) }
