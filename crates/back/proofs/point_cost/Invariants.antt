use Rattle.std.proofs.Common.{◌≡◌, ◌/◌}
use Rattle.integers.specs.Pairs.{unit}
use Rattle.back.proofs.Ends.{point_to}
use Rattle.back.proofs.point_cost.Given as goal

abbrev pub invariant-loop-k : goal.invariant-loop-k
invariant-loop-k l = l.best ≡ point_to l.cur l.g l.ws l.s l.j l.k / unit
