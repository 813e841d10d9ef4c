use Rattle.model.specs.Held.{first_table}
use Rattle.layer.specs.Next.{Lists, OfCount}
use Rattle.layer.proofs.first_count.Given as goal

abbrev pub invariant-loop-s : goal.invariant-loop-s
invariant-loop-s l = Lists (OfCount l.k l.s) l.problem.plan.now 1 (first_table l.problem.plan.now l.problem.readings.now) l.o l.free l.initial.ws l.ws
