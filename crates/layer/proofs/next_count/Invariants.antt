use Rattle.std.proofs.Common.{ℕ, suc}
use Rattle.model.specs.Held.{Table, next_from}
use Rattle.layer.specs.Layer.{Sources}
use Rattle.layer.specs.Next.{Lists, OfCount}
use Rattle.layer.proofs.next_count.Given as goal

abbrev pub invariant-loop-s : goal.invariant-loop-s
invariant-loop-s l = (T : ℕ → Table) → Sources l.problem.plan.now l.boundary.t T l.initial.ws l.from.stays l.from.changes → Lists (OfCount l.k l.s) l.problem.plan.now (suc l.boundary.t) (next_from l.problem.plan.now l.problem.readings.now l.boundary.t T) l.next l.free l.initial.ws l.ws
