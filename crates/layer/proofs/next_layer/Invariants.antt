use Rattle.std.proofs.Common.{ℕ, suc}
use Rattle.model.specs.Held.{Table, next_from}
use Rattle.layer.specs.Layer.{Sources}
use Rattle.layer.specs.Next.{Lists, Counts}
use Rattle.layer.proofs.next_layer.Given as goal

abbrev pub invariant-loop-k : goal.invariant-loop-k
invariant-loop-k l = (T : ℕ → Table) → Sources l.problem.plan.now l.t T l.initial.ws l.from.stays l.from.changes → Lists (Counts l.problem.plan.now l.k) l.problem.plan.now (suc l.t) (next_from l.problem.plan.now l.problem.readings.now l.t T) l.next l.free l.initial.ws l.ws
