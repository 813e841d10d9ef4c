-- `edges::add_reading`: one piece after the other. Assumes nothing.
use native.Mathlib.Omega.{arith}
use Rattle.curve.specs.Curve.{curve_reads, curve_sized}
use Rattle.edges.proofs.Moves.{with_loss}
use Rattle.edges.proofs.add_reading.Goals as goal

pub add_loss-requires : goal.add_loss-requires
add_loss-requires c = let l = c.requires.limits.0 in record { lent = (curve_reads c.args.dst c.requires.limits.1 c.requires.apart.0, c.requires.apart.1); u_bound = (omega (arith, c.requires.le_u), c.requires.le_u.1.0); by_index = curve_sized l c.requires.limits.1 }

pub returns : goal.returns
returns c = with_loss c.requires.limits.0.low c.requires.le_u.1.1 c.requires.le_u.0 c.requires.apart.1 c.add_loss.ensures
