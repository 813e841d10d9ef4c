use Rattle.search.specs.Way.{WayTo}
use Rattle.saved.specs.Walk.{At, Stack}
use Rattle.std.proofs.Common.{◌≡◌, ◌-◌}
use Rattle.search.proofs.way_back.Given as goal

abbrev pub invariant-loop-t : goal.invariant-loop-t
invariant-loop-t l = (At l.problem.plan.now l.problem.readings.now l.w l.ws × (Stack l.problem.plan.now l.problem.readings.now l.w.count l.table l.ws × (l.w.time ≡ l.t))) × WayTo l.problem.plan.now l.problem.readings.now (l.t - 1) l.initial.p l.p l.initial.ws l.ws l.initial.out l.out
