-- `neighbourhood::put_entries`: the entries, and whether one is a cost. Assumes nothing.
use Rattle.neighbourhood.proofs.Entries.{Entered}
use Rattle.neighbourhood.proofs.put_entries.Given as goal

abbrev pub invariant-loop-k : goal.invariant-loop-k
invariant-loop-k l = Entered l.problem.plan.now l.problem.readings.now l.most l.k l.some l.initial.list l.list
