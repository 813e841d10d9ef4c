use Rattle.std.proofs.Common.{◌≤◌}
use Rattle.quadratic.specs.Quad.{count_limit}
use Rattle.model.specs.Held.{Table}
use Rattle.back.specs.Read.{Reads, EndTo}
use Rattle.back.proofs.best_end.Given as goal

abbrev pub invariant-loop-s : goal.invariant-loop-s
invariant-loop-s l = (l.best.low.rank.changes ≤ count_limit) × ((H : Table) → Reads 1 l.cur l.g l.ws H → EndTo l.plan H l.s l.best)
