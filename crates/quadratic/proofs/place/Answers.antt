-- `quadratic::place`: the level, held within both ends. Assumes nothing.
use native.Mathlib.Omega.{arith}
use Rattle.std.proofs.lemmas.Int.{ints, clamps}
use Rattle.quadratic.proofs.place.Goals as goal

pub returns : goal.returns
returns c = record { low = omega (arith, ints, clamps); high = omega (arith, ints, clamps); under = λ h. omega (arith, ints, clamps); over = λ h. omega (arith, ints, clamps) }
